use Rattle.table.specs.Held.{rows_of}
use Rattle.table.proofs.Linking.{Takers}
use Rattle.table.proofs.links.make.takers_of.Given as goal

abbrev pub invariant-loop-n : goal.invariant-loop-n
invariant-loop-n l = Takers (rows_of l.rows) l.takers l.n
