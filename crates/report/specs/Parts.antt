-- The parts of a list of deleted entries as nodes.
use Rattle.std.specs.Prelude.{ℕ, cond, [], ◌∷◌, ℤ, pos, Some, None, Option, ◌==◌, slice_index_or}
use Rattle.packed.specs.declared.node.Node.{Node}
use Rattle.packed.specs.Trees.{node_of}
use Rattle.report.specs.declared.age.Age.TheVariants as age
use Rattle.report.specs.declared.part.Part.{Part}
use Rattle.report.specs.declared.part.Part.TheVariants as part

-- the node of each part: its constructor's number and its integers
abbrev pub node_for : Part → Node
node_for part.NoFolder = node_of 0 []
node_for (part.Folder id) = node_of 1 (id ∷ [])
node_for part.NoEntry = node_of 2 []
node_for (part.Entry id) = node_of 3 (id ∷ [])
node_for (part.Age (age.Kept ago left)) = node_of 4 (ago ∷ left ∷ [])
node_for (part.Age (age.Gone since)) = node_of 5 (since ∷ [])

abbrev pub integer_at : Node → ℕ → ℤ
integer_at n i = slice_index_or n.integers i (pos 0)

-- the part that a node stands for, by its constructor's number
abbrev pub part_in : Node → Option Part
part_in n =
    cond (n.constructor == 0) (Some part.NoFolder)
    (cond (n.constructor == 1) (Some (part.Folder (integer_at n 0)))
    (cond (n.constructor == 2) (Some part.NoEntry)
    (cond (n.constructor == 3) (Some (part.Entry (integer_at n 0)))
    (cond (n.constructor == 4) (Some (part.Age (age.Kept (integer_at n 0) (integer_at n 1))))
    (cond (n.constructor == 5) (Some (part.Age (age.Gone (integer_at n 0)))) None)))))
