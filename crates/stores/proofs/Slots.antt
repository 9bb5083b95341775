-- Slots and the pages tied to them.
use Rattle.std.proofs.Common.{◌≡◌, ℕ, zero, suc, ◌+◌, ◌*◌, ◌<◌, ◌≤◌, ◌≢◌, List, [], ◌∷◌, length, set, replicate, Some, None, Option, sym, refl, ap, ◌∙◌, ⊎_elim, arith}
use Rattle.std.proofs.lemmas.List.{get_or-set_same, get_or-set_other, get_or-replicate, get_or_past, length-replicate}
use Rattle.std.proofs.lemmas.Bool.{cases_eq, cases_lt}
use Rattle.stores.specs.Cells.{content, Clear}
use Rattle.stores.specs.Slots.{page_of, page_cell, Loose, Low, Once, pages_in}

-- a number at another place of the pages does not matter to a cell
pub page-other : (cells : List ℕ) (page : Option ℕ) (at p o b : ℕ) → at < 64 → o < 64 → ((page ≡ Some p) × (at ≡ o) → ⊥) → page_cell (set cells (p * 64 + o) b) page at ≡ page_cell cells page at
page-other cells None at p o b ha ho ne = refl
page-other cells (Some q) at p o b ha ho ne =
    let apart : q * 64 + at ≢ p * 64 + o = λ e. let same : q ≡ p = omega arith in ne (ap Some same, omega arith) in
    ap content (get_or-set_other cells (p * 64 + o) (q * 64 + at) b 0 apart)

-- The next page is tied to slot j, which had none: no cell changes.
module _ (slots : List (Option ℕ)) (tied j : ℕ) (low : Low slots tied) (loose : page_of slots j ≡ None) (within : j < length slots) where
  pub tie_here : page_of (set slots j (Some tied)) j ≡ Some tied
  tie_here = get_or-set_same slots j (Some tied) None within

  tie_there : (k : ℕ) → k ≢ j → page_of (set slots j (Some tied)) k ≡ page_of slots k
  tie_there k ne = get_or-set_other slots j k (Some tied) None ne

  pub tie-same : (cells : List ℕ) (to : ℕ) → Clear cells (tied * 64) to → (tied + 1) * 64 ≤ to → (k at : ℕ) → at < 64 → page_cell cells (page_of (set slots j (Some tied)) k) at ≡ page_cell cells (page_of slots k) at
  tie-same cells to clear fits k at h = ⊎_elim
      (λ (e : k ≡ j).
      let z = clear (tied * 64 + at) (omega arith) (omega arith) in
      rw (e, tie_here, loose, z) refl)
      (λ (e : k ≢ j). ap (λ (s : Option ℕ). page_cell cells s at) (tie_there k e))
      (cases_eq k j)

  pub tie-low : Low (set slots j (Some tied)) (tied + 1)
  tie-low k p h = ⊎_elim
      (λ (e : k ≡ j). let new = tie_here in let same : p ≡ tied = cc in omega arith)
      (λ (e : k ≢ j). let t = low k p (sym (tie_there k e) ∙ h) in omega arith)
      (cases_eq k j)

  pub tie-once : Once slots → Once (set slots j (Some tied))
  tie-once once a b p ha hb =
      let new = tie_here in
      ⊎_elim
      (λ (ea : a ≡ j). ⊎_elim
      (λ (eb : b ≡ j). ea ∙ sym eb)
      (λ (eb : b ≢ j). let t = low b p (sym (tie_there b eb) ∙ hb) in let same : p ≡ tied = cc in absurd (omega arith))
      (cases_eq b j))
      (λ (ea : a ≢ j).
      ⊎_elim
      (λ (eb : b ≡ j). let t = low a p (sym (tie_there a ea) ∙ ha) in let same : p ≡ tied = cc in absurd (omega arith))
      (λ (eb : b ≢ j). once a b p (sym (tie_there a ea) ∙ ha) (sym (tie_there b eb) ∙ hb))
      (cases_eq b j))
      (cases_eq a j)

  pub tie-loose : (used : ℕ) → j < used → Loose slots used → Loose (set slots j (Some tied)) used
  tie-loose used h rest k l = tie_there k (λ z. omega arith) ∙ rest k l

-- how many slots have a page: one more with each that is tied, and no more than there are slots of regions
pub pages-set : (slots : List (Option ℕ)) (j p : ℕ) → page_of slots j ≡ None → j < length slots → pages_in (set slots j (Some p)) ≡ pages_in slots + 1
pages-set [] j p e s = absurd (omega arith)
pages-set (x ∷ xs) zero p e s = rw e (omega arith)
pages-set (x ∷ xs) (suc j) p e s = let r = pages-set xs j p e (omega arith) in omega arith

pub pages-within : (slots : List (Option ℕ)) (n : ℕ) → Loose slots n → pages_in slots ≤ n
pages-within [] n loose = omega arith
pages-within (x ∷ xs) zero loose =
    let r = pages-within xs 0 (λ k l. loose (suc k) (omega arith)) in
    rw (loose 0 (omega arith)) (omega arith)
pages-within (None ∷ xs) (suc n) loose = let r = pages-within xs n (λ k l. loose (suc k) (omega arith)) in omega arith
pages-within (Some p ∷ xs) (suc n) loose = let r = pages-within xs n (λ k l. loose (suc k) (omega arith)) in omega arith

pub pages-below : (slots : List (Option ℕ)) (n j : ℕ) → Loose slots n → j < n → j < length slots → page_of slots j ≡ None → pages_in slots < n
pages-below slots n j loose h l e =
    let a = pages-set slots j 0 e l in
    let b = pages-within (set slots j (Some 0)) n (λ k m. get_or-set_other slots j k (Some 0) None (λ q. omega arith) ∙ loose k m) in
    omega arith

-- no slot has a page
pub none-at : (n j : ℕ) → page_of (replicate n None) j ≡ None
none-at n j = ⊎_elim
    (λ (h : j < n). get_or-replicate n j None None h)
    (λ (h : n ≤ j). get_or_past (replicate n None) j None (let l : length (replicate {A = Option ℕ} n None) ≡ n = length-replicate n None in omega arith))
    (cases_lt j n)

pub pages-none : (n : ℕ) → pages_in (replicate n None) ≡ 0
pages-none zero = refl
pages-none (suc n) = let e = pages-none n in omega arith
