use Rattle.table.specs.Held.{rows_of}
use Rattle.table.proofs.Linking.{Cases}
use Rattle.table.proofs.links.make.cases_of.Given as goal

abbrev pub invariant-loop-n : goal.invariant-loop-n
invariant-loop-n l = Cases (rows_of l.rows) l.cases l.n
