use Rattle.std.proofs.Common.{◌≡◌, ◌++◌, drop, vec_items}
use Rattle.localtool.specs.StoreCalls.{answers_from}
use Rattle.localtool.proofs.calling.answers.Given as goal

-- the answers so far and those still to come make the whole
abbrev pub invariant-loop-call : goal.invariant-loop-call
invariant-loop-call g l = vec_items l.told ++ answers_from (g.S.Store.meaning l.store) (drop l.call-index l.calls) ≡ answers_from (g.S.Store.meaning l.initial.store) l.calls
