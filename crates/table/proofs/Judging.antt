-- The first record that is not fair, one record at a time.
use Rattle.std.proofs.Common.{◌≡◌, ℕ, zero, suc, ◌+◌, ◌-◌, ◌*◌, ◌<◌, Bool, true, false, cond, ltb, MatchOption, Some, None, Option, Ok, Err, Result, sym, subst, ap, ◌∙◌, arith}
use Rattle.std.proofs.lemmas.Bool.{cond_below}
use Rattle.packed.specs.declared.fault.Fault.{Fault}
use Rattle.packed.specs.declared.fault.Reason.TheVariants as reason
use Rattle.packed.specs.Faults.{given}
use Rattle.packed.specs.Forms.{either}
use Rattle.table.specs.Sections.{onward}
use Rattle.table.specs.Meaning.{first_unfair, Judged}
use Rattle.table.proofs.Laying.{onward-ok, given-ok}

module _ (fair : ℕ → Bool) (start width count i : ℕ) (h : i < count) (inv : first_unfair fair start width i (count - i) ≡ first_unfair fair start width 0 count) where
  step : onward (given (fair i) reason.Meaning 2 (start + i * width)) (λ _. first_unfair fair start width (i + 1) (count - (i + 1))) ≡ first_unfair fair start width 0 count
  step =
      let left : count - i ≡ suc (count - (i + 1)) = omega arith in
      sym (ap (first_unfair fair start width i) left) ∙ inv

  -- by what giving the test at this record answered, written with the code's own terms
  module _ (tested : Bool) (stride : ℕ) (same : tested ≡ fair i) (wide : stride ≡ width) (r : Result (Unit {0}) Fault) (is : r ≡ given tested reason.Meaning 2 (start + i * stride)) where
    here : r ≡ given (fair i) reason.Meaning 2 (start + i * width)
    here = is ∙ (λ k. given (same k) reason.Meaning 2 (start + i * wide k))

    pub unfair-stop : (f : Fault) → r ≡ Err f → Err f ≡ first_unfair fair start width 0 count
    unfair-stop f e = ap (λ v. onward v (λ _. first_unfair fair start width (i + 1) (count - (i + 1)))) (sym e ∙ here) ∙ step

    pub unfair-more : (u : Unit {0}) → r ≡ Ok u → first_unfair fair start width (i + 1) (count - (i + 1)) ≡ first_unfair fair start width 0 count
    unfair-more u e = ap (λ v. onward v (λ _. first_unfair fair start width (i + 1) (count - (i + 1)))) (sym e ∙ here) ∙ step

-- a judge whose answers are those of a test
pub judged-by : {A : Type 0} (described : ℕ → Option A) (answers : ℕ → A → Bool → Type 0) (test : ℕ → A → Bool) (fair : ℕ → Bool) (count : ℕ) → ((i : ℕ) → i < count → fair i ≡ either (described i) false (test i)) → ((i : ℕ) (x : A) (b : Bool) → i < count → answers i x b → b ≡ test i x) → Judged described answers fair count
judged-by {A} described answers test fair count same told i h = by-case (described i) (fair i) (same i h)
  where
    by-case : (o : Option A) (v : Bool) → v ≡ either o false (test i) → MatchOption o (v ≡ false) (λ x. (b : Bool) → answers i x b → b ≡ v)
    by-case None v e = e
    by-case (Some x) v e = λ b a. told i x b h a ∙ sym e

-- what a judge answers of the record that was got is whether it is fair
pub agreed : {A : Type 0} (described : ℕ → Option A) (answers : ℕ → A → Bool → Type 0) (fair : ℕ → Bool) (count i : ℕ) (p : Option A) (t : Bool) → Judged described answers fair count → i < count → p ≡ cond (ltb i count) (described i) None → MatchOption p (t ≡ false) (λ x. answers i x t) → t ≡ fair i
agreed {A} described answers fair count i p t judged h e a = by-case p t (e ∙ sym (cond_below i count (described i) None h)) a
  where
    by-case : (p : Option A) (t : Bool) → p ≡ described i → MatchOption p (t ≡ false) (λ x. answers i x t) → t ≡ fair i
    by-case None t e a = a ∙ sym (subst (λ p. MatchOption p (fair i ≡ false) (λ x. (b : Bool) → answers i x b → b ≡ fair i)) (sym e) (judged i h))
    by-case (Some x) t e a = subst (λ p. MatchOption p (fair i ≡ false) (λ x. (b : Bool) → answers i x b → b ≡ fair i)) (sym e) (judged i h) t a

-- where none is unfair, each is fair
pub all-fair-at : (fair : ℕ → Bool) (start width i count : ℕ) (u : Unit {0}) → first_unfair fair start width i count ≡ Ok u → (k : ℕ) → k < count → fair (i + k) ≡ true
all-fair-at fair start width i zero u e k h = absurd (omega arith)
all-fair-at fair start width i (suc count) u e zero h =
    let first = onward-ok (given (fair i) reason.Meaning 2 (start + i * width)) (λ _. first_unfair fair start width (i + 1) count) u e in
    ap fair (omega arith) ∙ given-ok (fair i) reason.Meaning 2 (start + i * width) first.0 first.1
all-fair-at fair start width i (suc count) u e (suc k) h =
    let first = onward-ok (given (fair i) reason.Meaning 2 (start + i * width)) (λ _. first_unfair fair start width (i + 1) count) u e in
    ap fair (omega arith) ∙ all-fair-at fair start width (i + 1) count u first.2 k (omega arith)
