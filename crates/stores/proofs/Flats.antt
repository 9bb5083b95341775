-- The cells of the flat store.
use Rattle.std.proofs.Common.{◌≡◌, ℕ, ◌+◌, ◌<◌, false, ◌≢◌, length, get_or, set, is_some, None, Ok, Err, Result, List, MatchResult, sym, ap, ◌∙◌, ⊎_elim, div-one, arith}
use Rattle.std.proofs.lemmas.List.{get_or-set_same, get_or-set_other}
use Rattle.std.proofs.lemmas.Bool.{cases_eq}
use Rattle.packed.specs.declared.fault.Fault.{Fault}
use Rattle.cells.specs.Calls.{answer, put_refusal, open_refusal, after_put, after_open}
use Rattle.cells.proofs.Refusing.{ok-tells, ok-gives}
use Rattle.stores.specs.declared.flat.Flat.{Flat}
use Rattle.stores.specs.declared.regions.Regions.{Regions}
use Rattle.stores.specs.Cells.{content, Filling}
use Rattle.stores.specs.FlatLayout.{flat_cell, flat_meaning}
use Rattle.stores.specs.Opening.{first_in, outside, shut, Opened}
use Rattle.stores.proofs.Contents.{content-filled, content-empty}
use Rattle.stores.proofs.Ordered.{grain-taken, grains-apart}
use Rattle.stores.proofs.Meant.{inside, put-is, put-filled-is, open-told, opened-first, opened-first-old}

-- where a cell lies that is there: in the part that regions take, that in the grains, and these in the buffer
pub flat-reach : (s : Flat) (r i : ℕ) → outside s.regions r i ≡ None →
    (first_in s.regions r + i < s.regions.taken) × (first_in s.regions r + i < s.regions.grains) × (first_in s.regions r + i < length s.cells.now) × (first_in s.regions r + i < 65536)
flat-reach s r i there =
    let k = inside s.regions r i there in
    let u = rw s.grained at (grain-taken s.regions.list s.regions.count s.regions.grain s.regions.grains s.regions.taken s.regions.in_order r i k.0 k.1) in
    let d = div-one i in
    let w = s.whole in
    let o = s.regions.in_order.within in
    (omega arith, omega arith, omega arith, omega arith)

-- a cell that is there, from its place
module _ (s : Flat) (r i at : ℕ) (e : Ok at ≡ answer (outside s.regions r i) (first_in s.regions r + i)) where
  pub flat-there : outside s.regions r i ≡ None
  flat-there = ok-tells (outside s.regions r i) (first_in s.regions r + i) at e

  pub flat-at : at ≡ first_in s.regions r + i
  flat-at = ok-gives (outside s.regions r i) (first_in s.regions r + i) at e

  pub flat-look : flat_cell s.cells.now s.regions.list r i ≡ content (get_or s.cells.now at 0)
  flat-look = ap (λ (p : ℕ). content (get_or s.cells.now p 0)) (sym flat-at)

  pub flat-put : (b : ℕ) → b < 256 → is_some (content (get_or s.cells.now at 0)) ≡ false →
      (◌≡◌ {A = Result (Unit {0}) Fault} (Ok tt) (answer (put_refusal (flat_meaning s.cells.now s.regions) r i) tt))
      × (flat_meaning (set s.cells.now at b) s.regions ≡ after_put (flat_meaning s.cells.now s.regions) r i b)
  flat-put b small empty =
      let f = flat-at in
      let reach = flat-reach s r i flat-there in
      let k = inside s.regions r i flat-there in
      put-is s.regions (flat_cell s.cells.now s.regions.list) r i flat-there (flat_cell (set s.cells.now at b) s.regions.list) b
      (ap is_some flat-look ∙ empty)
      (ap (λ (p : ℕ). content (get_or (set s.cells.now at b) p 0)) (sym f) ∙ ap content (get_or-set_same s.cells.now at b 0 (omega arith)) ∙ content-filled b small)
      (λ q j h l other.
      let apart : first_in s.regions q + j ≢ at = λ z. ⊎_elim
      (λ (same : q ≡ r). other (same, let g : first_in s.regions q ≡ first_in s.regions r = ap (first_in s.regions) same in omega arith))
      (λ (n : q ≢ r).
      let a = rw s.grained at (grains-apart s.regions.list s.regions.count s.regions.grain s.regions.grains s.regions.taken s.regions.in_order q j r i h k.0 n l k.1) in
      let x = div-one i in let y = div-one j in a (omega arith))
      (cases_eq q r) in
      ap content (get_or-set_other s.cells.now at (first_in s.regions q + j) b 0 apart))

  pub flat-fill : (b : ℕ) (cells : List ℕ) (x : Result (Unit {0}) Fault) → b < 256 → Filling s.cells.now at b x cells →
      (x ≡ answer (put_refusal (flat_meaning s.cells.now s.regions) r i) tt) × (flat_meaning cells s.regions ≡ after_put (flat_meaning s.cells.now s.regions) r i b)
  flat-fill b cells (Ok u) small h = rw h.1 (flat-put b small (ap is_some h.0))
  flat-fill b cells (Err f) small h =
      let q = put-filled-is s.regions (flat_cell s.cells.now s.regions.list) r i flat-there b f (ap is_some flat-look ∙ h.0) h.1 in
      (q.0, ap (λ (c : List ℕ). flat_meaning c s.regions) h.2 ∙ q.1)

-- an open: the cells behind the last region are empty
pub flat-open : (s : Flat) (t : Regions) (n : ℕ) (r : Result ℕ Fault) → r ≡ answer (shut s.regions n) s.regions.count → MatchResult r (λ _. Opened s.regions t n) (λ _. t ≡ s.regions) →
    (r ≡ answer (open_refusal (flat_meaning s.cells.now s.regions) n) (length (flat_meaning s.cells.now s.regions).regions))
    × (flat_meaning s.cells.now t ≡ after_open (flat_meaning s.cells.now s.regions) n) × (t.grains ≡ s.regions.grains)
flat-open s t n r e m = open-told s.regions t (flat_cell s.cells.now) n r e m (λ o.
    let d = div-one (n + 0) in
    let u = rw s.grained at o.taken in
    let v = o.grains in
    let w = t.in_order.within in (
      (λ i l. ap (λ (p : ℕ). content (get_or s.cells.now (p + i) 0)) (opened-first s.regions t n o) ∙ content-empty _ (let z = s.clear (s.regions.taken + i) (omega arith) (omega arith) in omega arith)),
      (λ q j h l. ap (λ (p : ℕ). content (get_or s.cells.now (p + j) 0)) (opened-first-old s.regions t n o q h)),
    ))
