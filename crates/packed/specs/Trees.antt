-- Trees, what makes one a tree of a type, and the two words that spell it: its nodes and its bytes.
use Rattle.std.specs.Prelude.{◌≡◌, ℕ, zero, suc, ◌/◌, ◌%◌, List, [], ◌∷◌, ◌++◌, length, ℤ, pos, Some, FitsSigned}
use Rattle.std.specs.Int.{w64}
use Rattle.std.proofs.Common.{of_z}
use Rattle.std.specs.List.{slice_get}
use Rattle.packed.specs.declared.constructor.Constructor.{Constructor}
use Rattle.packed.specs.declared.node.Node.{Node}
use Rattle.packed.specs.Forms.{subtrees}

-- a constructor's number, its integers and its subtrees
mutual
  pub data Tree : Type 0 where
    tree : ℕ → List ℤ → Forest → Tree

  pub data Forest : Type 0 where
    none : Forest
    more : Tree → Forest → Forest

-- integers of 64 bits
abbrev pub Fit : List ℤ → Type 0
Fit [] = Unit {0}
Fit (z ∷ zs) = FitsSigned w64 z × Fit zs

-- a node as the code holds it: four integers of 64 bits
pub record Whole (n : Node) : Type 0 where
  pub four : length n.integers ≡ 4
  pub fit : Fit n.integers

abbrev pub AllWhole : List Node → Type 0
AllWhole ns = (i : ℕ) (n : Node) → slice_get ns i ≡ Some n → Whole n

-- constructor c of type t, numbered k, has these integers
pub record Heads (g : List Constructor) (t k : ℕ) (zs : List ℤ) (c : Constructor) : Type 0 where
  pub named : slice_get g k ≡ Some c
  pub typed : c.of ≡ t
  pub long : length zs ≡ c.fields.integers
  pub fit : Fit zs

-- a tree of type t, and trees of these types one by one
abbrev mutual
  pub OfType : List Constructor → ℕ → Tree → Type 0
  OfType g t (tree k zs ts) = (c : Constructor) × Heads g t k zs c × OfTypes g (subtrees c) ts

  pub OfTypes : List Constructor → List ℕ → Forest → Type 0
  OfTypes g due none = due ≡ []
  OfTypes g due (more x ts) = (t : ℕ) × (rest : List ℕ) × (due ≡ t ∷ rest) × OfType g t x × OfTypes g rest ts

-- A tree is spelled by its head, then its subtrees in order; `head` spells a constructor's number and its integers.
abbrev mutual
  pub spelled : {A : Type 0} → (ℕ → List ℤ → List A) → Tree → List A
  spelled head (tree k zs ts) = head k zs ++ spelled_all head ts

  pub spelled_all : {A : Type 0} → (ℕ → List ℤ → List A) → Forest → List A
  spelled_all head none = []
  spelled_all head (more x ts) = spelled head x ++ spelled_all head ts

-- As nodes: one for each head, with 0 behind its integers.
abbrev pub padded : ℕ → List ℤ → List ℤ
padded zero zs = []
padded (suc n) [] = pos 0 ∷ padded n []
padded (suc n) (z ∷ zs) = z ∷ padded n zs

abbrev pub node_of : ℕ → List ℤ → Node
node_of k zs = record { constructor = k; integers = padded 4 zs }

abbrev pub as_node : ℕ → List ℤ → List Node
as_node k zs = node_of k zs ∷ []

-- As bytes: the tag, then eight bytes for each integer, low byte first, in two's complement.
abbrev pub low : ℕ → ℕ → List ℕ
low zero n = []
low (suc count) n = (n % 256) ∷ low count (n / 256)

abbrev pub eight : ℤ → List ℕ
eight z = low 8 (of_z w64 z)

abbrev pub eights : List ℤ → List ℕ
eights [] = []
eights (z ∷ zs) = eight z ++ eights zs

abbrev pub as_bytes : ℕ → List ℤ → List ℕ
as_bytes k zs = k ∷ eights zs
