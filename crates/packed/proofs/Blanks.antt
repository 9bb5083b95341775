-- The integers of a node: those behind its constructor's are 0.
use Rattle.std.proofs.Common.{◌≡◌, ℕ, zero, suc, ◌-◌, ◌^◌, ◌<◌, ◌≤◌, Bool, true, false, ◌&&◌, ◌||◌, eqb, ltb, List, [], ◌∷◌, ◌++◌, length, get_or, take, drop, set, ℤ, pos, negsuc, sym, refl, ap, ◌∙◌, arith, w64, SFits, of_z}
use Rattle.std.proofs.lemmas.Bool.{ne_eqb, eqb-true, lt-ltb, and_parts}
use Rattle.packed.specs.Forms.{all}
use Rattle.packed.specs.Reading.{is_zero}
use Rattle.packed.specs.Trees.{Fit, padded}

pub zero_test : (z : ℤ) → SFits w64 z → eqb (of_z w64 z) 0 ≡ is_zero z
zero_test (pos n) f = refl
zero_test (negsuc n) f = let h = f.sfits in ne_eqb (2 ^ 64 - suc n) 0 (λ e. omega arith)

pub zero_is : (z : ℤ) → is_zero z ≡ true → pos 0 ≡ z
zero_is (pos n) e = ap pos (sym (eqb-true n 0 e))
zero_is (negsuc n) e = absurd (let w : ◌≡◌ {A = ℕ} 0 1 = cc in omega arith)

-- four tests at once, as the code has them
abbrev behind_four : ℕ → Bool → Bool → Bool → Bool → Bool
behind_four k a b c d = (((ltb 0 k || a) && (ltb 1 k || b)) && (ltb 2 k || c)) && (ltb 3 k || d)

and-true : (a : Bool) → (a && true) ≡ a
and-true true = refl
and-true false = refl

and_assoc : (a b c : Bool) → ((a && b) && c) ≡ (a && (b && c))
and_assoc true b c = refl
and_assoc false b c = refl

past : (k i : ℕ) → i < suc (suc (suc (suc (suc k)))) → (v : Bool) → (ltb i (suc (suc (suc (suc (suc k))))) || v) ≡ true
past k i h v = ap (λ t. t || v) (lt-ltb i (suc (suc (suc (suc (suc k))))) h)

four-tests : (k : ℕ) (a b c d : ℤ) → behind_four k (is_zero a) (is_zero b) (is_zero c) (is_zero d) ≡ all is_zero (drop k (a ∷ b ∷ c ∷ d ∷ []))
four-tests zero a b c d =
    and_assoc (is_zero a && is_zero b) (is_zero c) (is_zero d)
    ∙ and_assoc (is_zero a) (is_zero b) (is_zero c && is_zero d)
    ∙ ap (λ v. is_zero a && (is_zero b && (is_zero c && v))) (sym (and-true (is_zero d)))
four-tests (suc zero) a b c d = and_assoc (is_zero b) (is_zero c) (is_zero d) ∙ ap (λ v. is_zero b && (is_zero c && v)) (sym (and-true (is_zero d)))
four-tests (suc (suc zero)) a b c d = ap (λ v. is_zero c && v) (sym (and-true (is_zero d)))
four-tests (suc (suc (suc zero))) a b c d = sym (and-true (is_zero d))
four-tests (suc (suc (suc (suc zero)))) a b c d = refl
four-tests (suc (suc (suc (suc (suc k))))) a b c d =
    λ i. ((past k 0 (omega arith) (is_zero a) i && past k 1 (omega arith) (is_zero b) i) && past k 2 (omega arith) (is_zero c) i) && past k 3 (omega arith) (is_zero d) i

module _ (k : ℕ) where
  pub blank-test : (zs : List ℤ) → length zs ≡ 4 → Fit zs → behind_four k (eqb (of_z w64 (get_or zs 0 (pos 0))) 0) (eqb (of_z w64 (get_or zs 1 (pos 0))) 0) (eqb (of_z w64 (get_or zs 2 (pos 0))) 0) (eqb (of_z w64 (get_or zs 3 (pos 0))) 0) ≡ all is_zero (drop k zs)
  blank-test [] e f = absurd (omega arith)
  blank-test (a ∷ []) e f = absurd (omega arith)
  blank-test (a ∷ b ∷ []) e f = absurd (omega arith)
  blank-test (a ∷ b ∷ c ∷ []) e f = absurd (omega arith)
  blank-test (a ∷ b ∷ c ∷ d ∷ x ∷ zs) e f = absurd (omega arith)
  blank-test (a ∷ b ∷ c ∷ d ∷ []) e f =
      (λ i. behind_four k (zero_test a f.0 i) (zero_test b f.1.0 i) (zero_test c f.1.1.0 i) (zero_test d f.1.1.1.0 i))
      ∙ four-tests k a b c d

pub fit-four : (zs : List ℤ) → length zs ≡ 4 → SFits w64 (get_or zs 0 (pos 0)) → SFits w64 (get_or zs 1 (pos 0)) → SFits w64 (get_or zs 2 (pos 0)) → SFits w64 (get_or zs 3 (pos 0)) → Fit zs
fit-four [] e a b c d = absurd (omega arith)
fit-four (w ∷ []) e a b c d = absurd (omega arith)
fit-four (w ∷ x ∷ []) e a b c d = absurd (omega arith)
fit-four (w ∷ x ∷ y ∷ []) e a b c d = absurd (omega arith)
fit-four (w ∷ x ∷ y ∷ z ∷ v ∷ zs) e a b c d = absurd (omega arith)
fit-four (w ∷ x ∷ y ∷ z ∷ []) e a b c d = (a, (b, (c, (d, tt))))

pub fit-at : (zs : List ℤ) (i : ℕ) → Fit zs → i < length zs → SFits w64 (get_or zs i (pos 0))
fit-at [] i f h = absurd (omega arith)
fit-at (z ∷ zs) zero f h = f.0
fit-at (z ∷ zs) (suc i) f h = fit-at zs i f.1 (omega arith)

-- the first k integers, and 0 in the places behind them, are all of them
pub padded-take : (n k : ℕ) (zs : List ℤ) → length zs ≡ n → all is_zero (drop k zs) ≡ true → padded n (take k zs) ≡ zs
padded-take zero k [] e z = refl
padded-take zero k (x ∷ zs) e z = absurd (omega arith)
padded-take (suc n) k [] e z = absurd (omega arith)
padded-take (suc n) zero (x ∷ zs) e z =
    let p = and_parts (is_zero x) (all is_zero zs) z in
    λ i. zero_is x p.0 i ∷ padded-take n zero zs (omega arith) p.1 i
padded-take (suc n) (suc k) (x ∷ zs) e z = ap (λ l. x ∷ l) (padded-take n k zs (omega arith) z)

-- and back: as many integers as there are, padded, have 0 behind them
pub blank-padded : (n : ℕ) (zs : List ℤ) → all is_zero (drop (length zs) (padded n zs)) ≡ true
blank-padded zero [] = refl
blank-padded zero (z ∷ zs) = refl
blank-padded (suc n) [] = blank-padded n []
blank-padded (suc n) (z ∷ zs) = blank-padded n zs

pub take-padded : (n : ℕ) (zs : List ℤ) → length zs ≤ n → take (length zs) (padded n zs) ≡ zs
take-padded zero [] h = refl
take-padded zero (z ∷ zs) h = absurd (omega arith)
take-padded (suc n) [] h = refl
take-padded (suc n) (z ∷ zs) h = ap (λ l. z ∷ l) (take-padded n zs (omega arith))

-- one integer more
pub padded-push : (n : ℕ) (zs : List ℤ) (z : ℤ) → length zs < n → set (padded n zs) (length zs) z ≡ padded n (zs ++ z ∷ [])
padded-push zero zs z h = absurd (omega arith)
padded-push (suc n) [] z h = refl
padded-push (suc n) (x ∷ zs) z h = ap (λ l. x ∷ l) (padded-push n zs z (omega arith))
