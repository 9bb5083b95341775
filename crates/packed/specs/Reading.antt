-- Reading a word symbol by symbol, and the two words that a tree has: its nodes and its bytes.
use Rattle.std.specs.Prelude.{◌≡◌, ℕ, zero, suc, ◌+◌, ◌*◌, Bool, true, false, cond, List, [], ◌∷◌, ◌++◌, drop, ℤ, pos, negsuc, Some, None, Ok, Err, Option, Result, ◌==◌}
use Rattle.packed.specs.declared.constructor.Constructor.{Constructor}
use Rattle.packed.specs.declared.node.Node.{Node}
use Rattle.packed.specs.Forms.{either, subtrees, form_at, all}

-- `next` gives the state behind a symbol, or none where the symbol cannot stand; `done` holds where the word may end.
-- The answer names the first symbol that cannot stand, or the end of a word that ends too soon, counted from p.
abbrev pub reads : {S A : Type 0} → (S → A → Option S) → (S → Bool) → S → List A → ℕ → Result (Unit {0}) ℕ
reads next done s [] p = cond (done s) (Ok tt) (Err p)
reads next done s (a ∷ word) p = either (next s a) (Err p) (λ s'. reads next done s' word (p + 1))

-- Nodes: what is left to read is the types of the trees still due.
abbrev pub is_zero : ℤ → Bool
is_zero (pos n) = n == 0
is_zero (negsuc n) = false

-- nothing but 0 behind the first k integers
abbrev pub blank_behind : ℕ → Node → Bool
blank_behind k n = all is_zero (drop k n.integers)

abbrev pub next_node : List Constructor → List ℕ → Node → Option (List ℕ)
next_node g [] n = None
next_node g (t ∷ due) n = either (form_at g t n.constructor) None (λ c. cond (blank_behind c.fields.integers n) (Some (subtrees c ++ due)) None)

abbrev pub none_due : List ℕ → Bool
none_due [] = true
none_due (t ∷ due) = false

-- Bytes: what is left to read is bytes of integers, then trees of the types still due.
pub data Left : Type 0 where
  left : ℕ → List ℕ → Left

abbrev pub next_byte : List Constructor → Left → ℕ → Option Left
next_byte g (left (suc n) due) b = Some (left n due)
next_byte g (left zero []) b = None
next_byte g (left zero (t ∷ due)) b = either (form_at g t b) None (λ c. Some (left (8 * c.fields.integers) (subtrees c ++ due)))

abbrev pub nothing_left : Left → Bool
nothing_left (left (suc n) due) = false
nothing_left (left zero []) = true
nothing_left (left zero (t ∷ due)) = false

abbrev pub read_nodes : List Constructor → List ℕ → List Node → ℕ → Result (Unit {0}) ℕ
read_nodes g due ns p = reads (next_node g) none_due due ns p

abbrev pub read_bytes : List Constructor → Left → List ℕ → ℕ → Result (Unit {0}) ℕ
read_bytes g s bs p = reads (next_byte g) nothing_left s bs p

-- bytes that are read to their end, with some trees due
abbrev pub Readable : List Constructor → List ℕ → Type 0
Readable g bs = (due : List ℕ) × (read_bytes g (left 0 due) bs 0 ≡ Ok tt)
