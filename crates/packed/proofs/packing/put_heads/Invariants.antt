use Rattle.std.proofs.Common.{◌≡◌, ◌+◌, length, take, drop}
use Rattle.packed.specs.Buffers.{Front}
use Rattle.packed.specs.Packing.{bytes_of}
use Rattle.packed.specs.Shaped.{forms_of}
use Rattle.packed.proofs.packing.put_heads.Given as goal

abbrev pub invariant-loop-node : goal.invariant-loop-node
invariant-loop-node l =
    Front (bytes_of (forms_of l.shapes) (take l.node-index l.nodes)) l.initial.out l.at l.out
    × (l.at + length (bytes_of (forms_of l.shapes) (drop l.node-index l.nodes)) ≡ length (bytes_of (forms_of l.shapes) l.nodes))
