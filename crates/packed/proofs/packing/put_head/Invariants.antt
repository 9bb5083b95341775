use Rattle.std.proofs.Common.{ℕ, ◌+◌, ◌*◌, List, ◌++◌, take}
use Rattle.packed.specs.Buffers.{Front}
use Rattle.packed.specs.Trees.{eights}
use Rattle.packed.proofs.packing.put_head.Given as goal

-- the integers so far stand behind what stood before the loop
abbrev pub invariant-loop-i : goal.invariant-loop-i
invariant-loop-i l = (word old : List ℕ) → Front word old (l.at + 1) l.initial.out → Front (word ++ eights (take l.i l.z-items)) old (l.at + 1 + 8 * l.i) l.out
