-- The bytes that a text spells are those of its pairs of digits.
use Rattle.std.proofs.Common.{◌≡◌, ℕ, zero, suc, ◌*◌, ◌%◌, ◌/◌, List, [], ◌∷◌, length, get_or, Some, None, Option, refl, ap, ◌∙◌, arith}
use Rattle.std.specs.Simd.{first_chunks}
use Rattle.words.specs.Hex.{before, byte_of, spelled}
use Rattle.words.specs.Text.{ahead, each_of}

abbrev pub pair_byte : List ℕ → Option ℕ
pair_byte pair = byte_of (get_or pair 0 0) (get_or pair 1 0)

before-none : (o : Option ℕ) → before o None ≡ None
before-none None = refl
before-none (Some b) = refl

pub odd : (cs : List ℕ) → (length cs % 2 ≡ 0 → ⊥) → spelled cs ≡ None
odd [] h = absurd (h refl)
odd (c ∷ []) h = refl
odd (a ∷ b ∷ cs) h = ap (before (byte_of a b)) (odd cs (λ e. h (omega arith))) ∙ before-none (byte_of a b)

before-ahead : (o : Option ℕ) (rest : Option (List ℕ)) → before o rest ≡ ahead o rest
before-ahead None rest = refl
before-ahead (Some b) rest = refl

pairs-from : (k : ℕ) (cs : List ℕ) → length cs ≡ 2 * k → spelled cs ≡ each_of pair_byte (first_chunks 2 k cs)
pairs-from zero [] h = refl
pairs-from zero (c ∷ cs) h = absurd (omega arith)
pairs-from (suc k) [] h = absurd (omega arith)
pairs-from (suc k) (a ∷ []) h = absurd (omega arith)
pairs-from (suc k) (a ∷ b ∷ cs) h = ap (before (byte_of a b)) (pairs-from k cs (omega arith)) ∙ before-ahead (byte_of a b) (each_of pair_byte (first_chunks 2 k cs))

pub pairs-even : (cs : List ℕ) → length cs % 2 ≡ 0 → spelled cs ≡ each_of pair_byte (first_chunks 2 (length cs / 2) cs)
pairs-even cs h = pairs-from (length cs / 2) cs (omega arith)
