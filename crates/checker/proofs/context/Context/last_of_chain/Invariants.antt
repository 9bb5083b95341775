use Rattle.std.proofs.Common.{◌≡◌, ◌-◌, length}
use Rattle.checker.specs.Conditions.{chained}
use Rattle.checker.proofs.context.Context.last_of_chain.Given as goal

abbrev pub invariant-loop-x : goal.invariant-loop-x
invariant-loop-x l = chained l.self l.due l.last l.trees l.x-index (length l.trees - l.x-index) ≡ chained l.self l.initial.due l.initial.last l.trees 0 (length l.trees)
