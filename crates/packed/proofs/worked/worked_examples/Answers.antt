use Rattle.std.proofs.Common.{ℕ, zero, suc, ◌<◌, [], ◌∷◌, pos, refl, arith}
use Rattle.packed.specs.Trees.{Tree, OfType}
use Rattle.packed.specs.Trees.Tree.{tree}
use Rattle.packed.specs.Trees.Forest.{none}
use Rattle.packed.specs.Worked.{forms}
use Rattle.packed.proofs.worked.worked_examples.Goals as goal

finite : (t : ℕ) → t < 1 → (x : Tree) × OfType forms t x
finite zero h = (tree 0 (pos 0 ∷ []) none, (_, record { named = refl; typed = refl; long = refl; fit = (record { sfits = omega arith }, tt) }, refl))
finite (suc t) h = absurd (omega arith)

pub returns : goal.returns
returns c = record {
  worked = record { described = refl; packs = refl; bytes = refl; unpacks = refl; nodes = refl; cut = refl; extended = refl; pair_packs = refl; bytes_of_pair = refl; pair_unpacks = refl; pair_nodes = refl; pair_cut = refl; crowded = refl; numbers = (refl, refl, refl); unknown = refl; short = refl; finite = finite };
}
