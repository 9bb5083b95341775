use Rattle.std.proofs.Common.{◌≡◌, ℕ, ◌<◌, get_or}
use Rattle.cells.specs.Calls.{byte_at}
use Rattle.cells.proofs.copying.fetch.Given as goal

abbrev pub invariant-loop-i : goal.invariant-loop-i
invariant-loop-i g l = (k : ℕ) → k < l.i → get_or l.back k 0 ≡ byte_at (g.S.Store.meaning l.store) l.region k
