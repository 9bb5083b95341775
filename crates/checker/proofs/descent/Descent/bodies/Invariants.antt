use Rattle.std.proofs.Common.{◌≡◌, length, drop}
use Rattle.table.specs.Held.{functions_of}
use Rattle.checker.specs.Described.{program_of}
use Rattle.checker.specs.Verdict.{bodies_of, verdict_of}
use Rattle.checker.proofs.descent.Descent.bodies.Given as goal

abbrev pub invariant-loop-function : goal.invariant-loop-function
invariant-loop-function l = bodies_of (program_of l.self) (drop (length l.yielded) (functions_of l.self.functions)) ≡ verdict_of (program_of l.self)
