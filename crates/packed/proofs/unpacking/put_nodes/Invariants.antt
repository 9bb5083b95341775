use Rattle.packed.specs.Shaped.{forms_of}
use Rattle.packed.proofs.Counts.{Filled}
use Rattle.packed.proofs.unpacking.put_nodes.Given as goal

abbrev pub invariant-loop-place : goal.invariant-loop-place
invariant-loop-place l = Filled (forms_of l.shapes) l.bytes l.initial.out l.rest l.place-index l.out
