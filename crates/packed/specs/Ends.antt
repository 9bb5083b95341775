-- With nothing due, a reading is at its end, or at the first symbol too many.
use Rattle.std.specs.Prelude.{◌≡◌, ℕ, zero, suc, cond, List, [], ◌∷◌, length, drop, nat_lt, Ok, Err, Result, refl}
use Rattle.std.proofs.Common.{arith}
use Rattle.std.proofs.lemmas.Bool.Decides.{nat_tests}
use Rattle.packed.specs.declared.constructor.Constructor.{Constructor}
use Rattle.packed.specs.declared.node.Node.{Node}
use Rattle.packed.specs.Reading.{left, read_nodes, read_bytes}

module _ {A : Type 0} (read : List A → ℕ → Result (Unit {0}) ℕ) (ends : (p : ℕ) → read [] p ≡ Ok tt) (stops : (a : A) (rest : List A) (p : ℕ) → read (a ∷ rest) p ≡ Err p) where
  ends_at : (word : List A) (at p : ℕ) → read (drop at word) p ≡ cond (nat_lt at (length word)) (Err p) (Ok tt)
  ends_at [] zero p = ends p
  ends_at [] (suc at) p = grind (arith, nat_tests, ends p)
  ends_at (a ∷ word) zero p = grind (arith, nat_tests, stops a word p)
  ends_at (a ∷ word) (suc at) p = grind (arith, nat_tests, ends_at word at p)

pub bytes_end : (word : List ℕ) (g : List Constructor) (at : ℕ) → read_bytes g (left 0 []) (drop at word) at ≡ cond (nat_lt at (length word)) (Err at) (Ok tt)
bytes_end word g at = ends_at (read_bytes g (left 0 [])) (λ p. refl) (λ b rest p. refl) word at at

pub nodes_end : (word : List Node) (g : List Constructor) (at : ℕ) → read_nodes g [] (drop at word) at ≡ cond (nat_lt at (length word)) (Err at) (Ok tt)
nodes_end word g at = ends_at (read_nodes g []) (λ p. refl) (λ n rest p. refl) word at at
