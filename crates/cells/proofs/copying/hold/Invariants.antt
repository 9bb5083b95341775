use Rattle.std.proofs.Common.{◌≡◌}
use Rattle.cells.proofs.Copies.{with_front}
use Rattle.cells.proofs.copying.hold.Given as goal

abbrev pub invariant-loop-i : goal.invariant-loop-i
invariant-loop-i g l = record {
  front : g.S.Store.meaning l.store ≡ with_front (g.S.Store.meaning l.initial.store) l.number l.bytes l.i;
  keeps : g.S.Store.kept l.initial.store l.store;
}
