use Rattle.std.proofs.Common.{◌≡◌, map, take}
use Rattle.packed.specs.Trees.{padded}
use Rattle.packed.specs.Packing.{integer}
use Rattle.packed.proofs.unpacking.node.Given as goal

abbrev pub invariant-loop-i : goal.invariant-loop-i
invariant-loop-i l = l.integers ≡ padded 4 (map integer (take l.i l.eight-items))
