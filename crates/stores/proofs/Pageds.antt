-- The cells of the paged store.
use Rattle.std.proofs.Common.{◌≡◌, ℕ, ◌+◌, ◌*◌, ◌/◌, ◌%◌, ◌<◌, ◌≤◌, false, ◌≢◌, List, length, get_or, set, is_some, Some, None, Option, Ok, Err, Result, MatchResult, sym, refl, ap, ◌∙◌, ⊎_elim, arith}
use Rattle.std.proofs.lemmas.List.{get_or-set_same}
use Rattle.std.proofs.lemmas.Bool.{cases_eq}
use Rattle.packed.specs.declared.fault.Fault.{Fault}
use Rattle.cells.specs.Meaning.{Meaning}
use Rattle.cells.specs.Calls.{answer, put_refusal, open_refusal, after_put, after_open}
use Rattle.cells.proofs.Refusing.{ok-tells, ok-gives}
use Rattle.cells.proofs.Laying.{laid_same}
use Rattle.stores.specs.declared.paged.Paged.{Paged}
use Rattle.stores.specs.declared.regions.Regions.{Regions}
use Rattle.stores.specs.Cells.{content, Filling}
use Rattle.stores.specs.Slots.{page_of, page_cell}
use Rattle.stores.specs.PagedLayout.{paged_cell, paged_meaning}
use Rattle.stores.specs.Opening.{first_in, room_in, outside, shut, Opened}
use Rattle.stores.proofs.Contents.{content-filled}
use Rattle.stores.proofs.Ordered.{grain-taken, grains-apart}
use Rattle.stores.proofs.Slots.{page-other, pages-within}
use Rattle.stores.proofs.Meant.{inside, put-is, put-filled-is, open-told, opened-first, opened-first-old}

abbrev pub m : Paged → Meaning
m s = paged_meaning s.cells.now s.slots s.regions

-- the pages tied are among those that there are, and these lie within the buffer
pub tied-low : (s : Paged) → (s.tied ≤ s.regions.taken) × (s.regions.taken ≤ s.regions.grains) × (s.regions.grains ≤ 1024) × (s.regions.grains * 64 ≤ length s.cells.now)
tied-low s =
    let f = pages-within s.slots s.regions.taken s.loose in
    let n = s.counted in
    let o = s.regions.in_order.within in
    let w = s.whole in
    (omega arith, omega arith, omega arith, omega arith)

-- the slot of a cell that is there lies among those that are used, and they in the table
pub slot-low : (s : Paged) (r i : ℕ) → outside s.regions r i ≡ None → (first_in s.regions r + i / 64 < s.regions.taken) × (first_in s.regions r + i / 64 < 1024)
slot-low s r i there =
    let k = inside s.regions r i there in
    let u = rw s.grained at (grain-taken s.regions.list s.regions.count s.regions.grain s.regions.grains s.regions.taken s.regions.in_order r i k.0 k.1) in
    let w = tied-low s in
    (omega arith, omega arith)

-- a cell that is there, from its slot
module _ (s : Paged) (r i slot : ℕ) (e : Ok slot ≡ answer (outside s.regions r i) (first_in s.regions r + i / 64)) where
  pub paged-there : outside s.regions r i ≡ None
  paged-there = ok-tells (outside s.regions r i) (first_in s.regions r + i / 64) slot e

  slot-is : page_of s.slots (first_in s.regions r + i / 64) ≡ page_of s.slots slot
  slot-is = ap (page_of s.slots) (sym (ok-gives (outside s.regions r i) (first_in s.regions r + i / 64) slot e))

  pub look-none : page_of s.slots slot ≡ None → paged_cell s.cells.now s.slots s.regions.list r i ≡ None
  look-none h = rw (slot-is, h) refl

  module _ (p : ℕ) (tied : page_of s.slots slot ≡ Some p) where
    pub paged-look : paged_cell s.cells.now s.slots s.regions.list r i ≡ content (get_or s.cells.now (p * 64 + i % 64) 0)
    paged-look = rw (slot-is, tied) refl

    pub paged-reach : (p * 64 + i % 64 < s.tied * 64) × (p * 64 + i % 64 < s.regions.grains * 64) × (p * 64 + i % 64 < length s.cells.now)
    paged-reach =
        let l = s.low slot p tied in
        let w = tied-low s in
        (omega arith, omega arith, omega arith)

    pub paged-put : (b : ℕ) → b < 256 → is_some (content (get_or s.cells.now (p * 64 + i % 64) 0)) ≡ false →
        (◌≡◌ {A = Result (Unit {0}) Fault} (Ok tt) (answer (put_refusal (paged_meaning s.cells.now s.slots s.regions) r i) tt))
        × (paged_meaning (set s.cells.now (p * 64 + i % 64) b) s.slots s.regions ≡ after_put (paged_meaning s.cells.now s.slots s.regions) r i b)
    paged-put b small empty =
        let k = inside s.regions r i paged-there in
        let cells : List ℕ = set s.cells.now (p * 64 + i % 64) b in
        put-is s.regions (paged_cell s.cells.now s.slots s.regions.list) r i paged-there (paged_cell cells s.slots s.regions.list) b
        (ap is_some paged-look ∙ empty)
        (ap (λ (o : Option ℕ). page_cell cells o (i % 64)) (slot-is ∙ tied) ∙ ap content (get_or-set_same s.cells.now (p * 64 + i % 64) b 0 paged-reach.2) ∙ content-filled b small)
        (λ q j h l other. page-other s.cells.now (page_of s.slots (first_in s.regions q + j / 64)) (j % 64) p (i % 64) b (omega arith) (omega arith) (λ z.
        let same : first_in s.regions q + j / 64 ≡ first_in s.regions r + i / 64 = s.once _ _ p z.0 (slot-is ∙ tied) in
        ⊎_elim
        (λ (n : q ≡ r). other (n, let g : first_in s.regions q ≡ first_in s.regions r = ap (first_in s.regions) n in let t = z.1 in omega arith))
        (λ (n : q ≢ r). (rw s.grained at (grains-apart s.regions.list s.regions.count s.regions.grain s.regions.grains s.regions.taken s.regions.in_order q j r i h k.0 n l k.1)) same)
        (cases_eq q r)))

    pub paged-fill : (b : ℕ) (cells : List ℕ) (x : Result (Unit {0}) Fault) → b < 256 → Filling s.cells.now (p * 64 + i % 64) b x cells →
        (x ≡ answer (put_refusal (paged_meaning s.cells.now s.slots s.regions) r i) tt) × (paged_meaning cells s.slots s.regions ≡ after_put (paged_meaning s.cells.now s.slots s.regions) r i b)
    paged-fill b cells (Ok u) small h = rw h.1 (paged-put b small (ap is_some h.0))
    paged-fill b cells (Err f) small h =
        let q = put-filled-is s.regions (paged_cell s.cells.now s.slots s.regions.list) r i paged-there b f (ap is_some paged-look ∙ h.0) h.1 in
        (q.0, ap (λ (c : List ℕ). paged_meaning c s.slots s.regions) h.2 ∙ q.1)

-- an open: the slots behind the last region have no page
pub paged-open : (s : Paged) (t : Regions) (n : ℕ) (r : Result ℕ Fault) → r ≡ answer (shut s.regions n) s.regions.count → MatchResult r (λ _. Opened s.regions t n) (λ _. t ≡ s.regions) →
    (r ≡ answer (open_refusal (paged_meaning s.cells.now s.slots s.regions) n) (length (paged_meaning s.cells.now s.slots s.regions).regions))
    × (paged_meaning s.cells.now s.slots t ≡ after_open (paged_meaning s.cells.now s.slots s.regions) n) × (t.grains ≡ s.regions.grains)
paged-open s t n r e m = open-told s.regions t (paged_cell s.cells.now s.slots) n r e m (λ o. (
  (λ i l. ap (λ (p : ℕ). page_cell s.cells.now (page_of s.slots (p + i / 64)) (i % 64)) (opened-first s.regions t n o)
      ∙ ap (λ (p : Option ℕ). page_cell s.cells.now p (i % 64)) (s.loose (s.regions.taken + i / 64) (omega arith))),
  (λ q j h l. ap (λ (p : ℕ). page_cell s.cells.now (page_of s.slots (p + j / 64)) (j % 64)) (opened-first-old s.regions t n o q h)),
))

-- a page is tied: no cell changes
pub paged-tie : (s : Paged) (slots' : List (Option ℕ)) → ((k at : ℕ) → at < 64 → page_cell s.cells.now (page_of slots' k) at ≡ page_cell s.cells.now (page_of s.slots k) at) →
    paged_meaning s.cells.now slots' s.regions ≡ paged_meaning s.cells.now s.slots s.regions
paged-tie s slots' same =
    let e = laid_same s.regions.count (room_in s.regions) (room_in s.regions) (paged_cell s.cells.now s.slots s.regions.list) (paged_cell s.cells.now slots' s.regions.list)
    (λ k h. refl)
    (λ k j h l. same (first_in s.regions k + j / 64) (j % 64) (omega arith)) in
    rw e refl
