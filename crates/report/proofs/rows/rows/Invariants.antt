use Rattle.std.proofs.Common.{◌≡◌, ◌++◌, drop, vec_items}
use Rattle.report.specs.Rows.{rows_in, nowhere}
use Rattle.report.proofs.rows.rows.Given as goal

-- the rows so far and those still to come make the whole
abbrev pub invariant-loop-node : goal.invariant-loop-node
invariant-loop-node l = vec_items l.rows ++ rows_in l.place (drop l.node-index l.nodes) ≡ rows_in nowhere l.nodes
