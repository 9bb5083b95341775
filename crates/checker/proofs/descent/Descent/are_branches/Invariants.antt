use Rattle.std.proofs.Common.{◌≡◌, drop}
use Rattle.table.specs.Held.{rows_of}
use Rattle.checker.specs.Conditions.{covers}
use Rattle.checker.proofs.descent.Descent.are_branches.Given as goal

abbrev pub invariant-loop-i : goal.invariant-loop-i
invariant-loop-i l = covers (rows_of l.self.rows) l.t l.i (drop l.i l.forms) l.b ≡ covers (rows_of l.self.rows) l.t 0 l.forms l.initial.b
