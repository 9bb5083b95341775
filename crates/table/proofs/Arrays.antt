-- Arrays that a closure makes, place by place.
use Rattle.std.proofs.Common.{◌≡◌, ℕ, zero, suc, ◌+◌, ◌<◌, ◌≤◌, List, length, get_or, take, unwrap_or, sym, ap, ◌∙◌, subst, arith}
use Rattle.std.specs.Array.{IsFromFnResult, IsFromFnResultFrom}
use Rattle.std.specs.Fn.{Called, Mut}
use Rattle.std.specs.List.{slice_get}
use Rattle.std.proofs.lemmas.List.{same_lists, length-take-le, get_or-take}
use Rattle.std.proofs.lemmas.Option.{slice_get-get_or, unwrap_or-slice_get, get_or_from_slice_get}

-- a closure that answers what h says, and stays as it is
module _ {F B : Type 0} (g : Mut F (ℕ × Unit {0}) B) (h : ℕ → B) (f : F) (most : ℕ) (each : (i : ℕ) (y : B) (q : F) → i < most → Called g f (i, tt) y q → (y ≡ h i) × (q ≡ f)) where
  made-from : (ys : List B) (n i : ℕ) (p : F) → i + n ≤ most → p ≡ f → IsFromFnResultFrom g p ys i n → (k : ℕ) (d : B) → k < n → get_or ys (i + k) d ≡ h (i + k)
  made-from ys zero i p room e m k d l = absurd (omega arith)
  made-from ys (suc n) i p room e (q, y, at, called, more) zero d l =
      let told = each i y q (omega arith) (subst (λ p. Called g p (i, tt) y q) e called) in
      let here : i + 0 ≡ i = omega arith in
      ap (λ j. get_or ys j d) here ∙ at.1 d ∙ told.0 ∙ ap h (sym here)
  made-from ys (suc n) i p room e (q, y, at, called, more) (suc k) d l =
      let told = each i y q (omega arith) (subst (λ p. Called g p (i, tt) y q) e called) in
      let there : i + suc k ≡ i + 1 + k = omega arith in
      ap (λ j. get_or ys j d) there ∙ made-from ys n (i + 1) q (omega arith) told.1 more k d (omega arith) ∙ ap h (sym there)

  pub made : (ys : List B) → IsFromFnResult g f ys most → (k : ℕ) (d : B) → k < most → get_or ys k d ≡ h k
  made ys m k d l =
      let zero : 0 + k ≡ k = omega arith in
      ap (λ j. get_or ys j d) (sym zero) ∙ made-from ys most 0 f (omega arith) (λ i. f) m.each k d l ∙ ap h zero

-- an array that holds the elements of a shorter list, and e behind them
pub made-front : {F B : Type 0} (g : Mut F (ℕ × Unit {0}) B) (f : F) (most : ℕ) (e : B) (zs : List B) → length zs ≤ most → ((i : ℕ) (y : B) (q : F) → i < most → Called g f (i, tt) y q → (y ≡ unwrap_or (slice_get zs i) e) × (q ≡ f)) → (ys : List B) → IsFromFnResult g f ys most → take (length zs) ys ≡ zs
made-front {F} {B} g f most e zs few each ys m = same_lists (take (length zs) ys) zs long same
  where
    long : length (take (length zs) ys) ≡ length zs
    long = length-take-le (length zs) ys (let l = m.long in omega arith)

    same : (k : ℕ) (d : B) → k < length (take (length zs) ys) → get_or (take (length zs) ys) k d ≡ get_or zs k d
    same k d h =
        let l = long in
        let below : k < length zs = omega arith in
        get_or-take (length zs) ys k d below
        ∙ made g (λ i. unwrap_or (slice_get zs i) e) f most each ys m k d (omega arith)
        ∙ unwrap_or-slice_get zs k e
        ∙ sym (get_or_from_slice_get zs k (get_or zs k e) d (slice_get-get_or zs k e below))
