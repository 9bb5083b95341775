use Rattle.std.proofs.Common.{length}
use Rattle.packed.specs.Shaped.{forms_of}
use Rattle.packed.proofs.Counts.{Counted}
use Rattle.packed.proofs.unpacking.node_count.Given as goal

abbrev pub invariant-loop-tag : goal.invariant-loop-tag
invariant-loop-tag l = Counted (forms_of l.shapes) l.bytes l.rest l.count

abbrev pub decreases-loop-tag : goal.decreases-loop-tag
decreases-loop-tag l = length l.rest
