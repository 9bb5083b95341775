use Rattle.std.proofs.Common.{◌≡◌, ◌-◌}
use Rattle.checker.specs.Contexts.{entered}
use Rattle.checker.proofs.functions.begin.Given as goal

abbrev pub invariant-loop-j : goal.invariant-loop-j
invariant-loop-j l = entered l.cx l.function.kinds l.j (l.function.parameters - l.j) ≡ entered l.initial.cx l.function.kinds 0 l.function.parameters
