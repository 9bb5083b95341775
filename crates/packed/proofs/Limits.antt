-- The first thing that breaks a limit, and the first that a test finds.
use Rattle.std.proofs.Common.{◌≡◌, ℕ, ◌+◌, Bool, true, false, not, cond, List, [], ◌∷◌, sum, position, Some, None, Option, sym, refl, ap, ◌∙◌}
use Rattle.std.specs.List.{position_from}
use Rattle.std.proofs.lemmas.List.Sums.{sum_by-cons}
use Rattle.std.proofs.lemmas.Iterator.Adapters.{position_from-zero}
use Rattle.packed.specs.declared.constructor.Limit.{Limit}
use Rattle.packed.specs.Forms.{either, total}

-- `first` looks for the first of a list that does not pass, and names it
module _ {A : Type 0} (test : A → Bool) (name : ℕ → Limit) (first : ℕ → List A → Option Limit) (none : (i : ℕ) → first i [] ≡ None) (more : (i : ℕ) (x : A) (xs : List A) → first i (x ∷ xs) ≡ cond (test x) (first (i + 1) xs) (Some (name i))) where
  abbrev named : Option ℕ → Option Limit
  named o = either o None (λ k. Some (name k))

  stops : (passes : Bool) (o : Option ℕ) (i : ℕ) → cond passes (named o) (Some (name i)) ≡ named (cond (not passes) (Some i) o)
  stops true o i = refl
  stops false o i = refl

  first-from : (i : ℕ) (xs : List A) → first i xs ≡ named (position_from (λ x. not (test x)) i xs)
  first-from i [] = none i
  first-from i (x ∷ xs) = more i x xs ∙ ap (λ o. cond (test x) o (Some (name i))) (first-from (i + 1) xs) ∙ stops (test x) (position_from (λ x. not (test x)) (i + 1) xs) i

  pub first-is : (xs : List A) (o : Option ℕ) → o ≡ position (λ x. not (test x)) xs → first 0 xs ≡ either o None (λ k. Some (name k))
  first-is xs o e = first-from 0 xs ∙ ap named (sym (position_from-zero (λ x. not (test x)) xs)) ∙ ap named (sym e)

pub total-sum : (ns : List ℕ) → total ns ≡ sum ns
total-sum [] = refl
total-sum (n ∷ ns) = ap (λ k. n + k) (total-sum ns) ∙ sym (sum_by-cons (λ k. k) n ns)
