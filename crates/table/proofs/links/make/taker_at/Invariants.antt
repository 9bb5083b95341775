use Rattle.table.specs.Held.{rows_of}
use Rattle.table.proofs.Linking.{Walk}
use Rattle.table.proofs.links.make.taker_at.Given as goal

abbrev pub invariant-loop-t : goal.invariant-loop-t
invariant-loop-t l = Walk (rows_of l.rows) l.n l.t

abbrev pub decreases-loop-t : goal.decreases-loop-t
decreases-loop-t l = l.t
