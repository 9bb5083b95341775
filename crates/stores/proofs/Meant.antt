-- What a store answers by its regions, and what a put and an open make of what it means.
use Rattle.std.proofs.Common.{◌≡◌, ℕ, ◌+◌, ◌-◌, ◌*◌, ◌<◌, ◌≤◌, true, false, ltb, ◌⊎◌, List, length, is_some, Some, None, Ok, Err, Option, Result, MatchResult, sym, refl, ap, ◌∙◌, inl, inr, ⊎_elim, mul_comm, mul-le-mul_right, mul-lt-mul_of_pos_right, arith}
use Rattle.std.specs.Option.{ok_or}
use Rattle.std.proofs.Math.Nat.{mul-sub}
use Rattle.std.proofs.lemmas.List.{get_or-set_same, get_or-set_other}
use Rattle.std.proofs.lemmas.Bool.{cases_lt, eq-eqb, lt-ltb, le-ltb, lt-leb, le-leb}
use Rattle.std.proofs.lemmas.Bool.Decides.{nat_tests}
use Rattle.packed.specs.declared.fault.Fault.{Fault}
use Rattle.packed.specs.declared.fault.Reason.{Reason}
use Rattle.packed.specs.declared.fault.Reason.TheVariants as reason
use Rattle.packed.specs.Forms.{either}
use Rattle.packed.specs.Packing.{refusal}
use Rattle.cells.specs.Meaning.{room_at, cell_at}
use Rattle.cells.specs.Calls.{answer, room_refusal, put_refusal, get_refusal, open_refusal, byte_at, with_cell, with_region, after_put, after_open}
use Rattle.cells.proofs.Refusing.{room-unknown, room-accepted, put-unknown, put-past, put-filled, put-accepted, get-unknown, get-past, get-empty, get-accepted, put_refused, put-done, open_done, answer-refused, ok-tells, ok-gives, err-tells}
use Rattle.cells.proofs.Laying.{laid-length, laid-room, laid_cell, laid-put, laid-open}
use Rattle.stores.specs.declared.regions.Region.{Region}
use Rattle.stores.specs.declared.regions.Regions.{Regions}
use Rattle.stores.specs.Regions.{region_of, grains_of}
use Rattle.stores.specs.Opening.{first_in, room_in, meaning_in, unknown, outside, shut, Opened}

-- grains and cells compare alike
lt-scale : (a b g : ℕ) → 1 ≤ g → ltb (a * g) (b * g) ≡ ltb a b
lt-scale a b g some = ⊎_elim
    (λ (h : a < b). lt-ltb (a * g) (b * g) (mul-lt-mul_of_pos_right h some) ∙ sym (lt-ltb a b h))
    (λ (h : b ≤ a). le-ltb (a * g) (b * g) (mul-le-mul_right g h) ∙ sym (le-ltb a b h))
    (cases_lt a b)

sub-scale : (a b g : ℕ) → (a - b) * g ≡ a * g - b * g
sub-scale a b g =
    let e = mul-sub g a b in
    let x = mul_comm (a - b) g in
    let y = mul_comm g a in
    let z = mul_comm g b in
    omega arith

-- the grounds of the code
pub shut-since : (s : Regions) (n need free : ℕ) → need ≡ grains_of s.grain n → free ≡ s.grains - s.taken →
    (n ≡ 0) ⊎ (((n ≡ 0 → ⊥) × (32768 < n)) ⊎ (((n ≡ 0 → ⊥) × (n ≤ 32768) × (32 ≤ s.count)) ⊎ ((n ≡ 0 → ⊥) × (n ≤ 32768) × (s.count < 32) × (free < need)))) → shut s n ≡ Some reason.OpenRefused
shut-since s n need free e f (inl a) = rw (eq-eqb n 0 a)
shut-since s n need free e f (inr (inl b)) = grind (arith, nat_tests)
shut-since s n need free e f (inr (inr (inl c))) = grind (arith, nat_tests)
shut-since s n need free e f (inr (inr (inr d))) = grind (arith, nat_tests)

pub inside : (s : Regions) (r i : ℕ) → outside s r i ≡ None → (r < s.count) × (i < room_in s r)
inside s r i e = (grind (arith, nat_tests), grind (arith, nat_tests))

-- what an open leaves of the list
module _ (s t : Regions) (n : ℕ) (o : Opened s t n) where
  held : s.count < length s.list
  held = let f = t.in_order.few in let c = o.count in let z = s.sized in omega arith

  opened-new : region_of t.list s.count ≡ record { first = s.taken; room = n }
  opened-new = rw o.list (get_or-set_same s.list s.count _ _ held)

  opened-old : (k : ℕ) → k < s.count → region_of t.list k ≡ region_of s.list k
  opened-old k h = rw o.list (get_or-set_other s.list s.count k _ _ (λ e. omega arith))

  pub opened-first : first_in t s.count ≡ s.taken
  opened-first = ap (λ (r : Region). r.first) opened-new

  pub opened-room : room_in t s.count ≡ n
  opened-room = ap (λ (r : Region). r.room) opened-new

  pub opened-first-old : (k : ℕ) → k < s.count → first_in t k ≡ first_in s k
  opened-first-old k h = ap (λ (r : Region). r.first) (opened-old k h)

  pub opened-room-old : (k : ℕ) → k < s.count → room_in t k ≡ room_in s k
  opened-room-old k h = ap (λ (r : Region). r.room) (opened-old k h)

module _ (s : Regions) (look : ℕ → ℕ → Option ℕ) where
  pub count-is : length (meaning_in s look).regions ≡ s.count
  count-is = laid-length s.count (room_in s) look

  room-is : (r : ℕ) → r < s.count → room_at (meaning_in s look) r ≡ room_in s r
  room-is r h = laid-room s.count (room_in s) look r h

  cell-is : (r i : ℕ) → r < s.count → i < room_in s r → cell_at (meaning_in s look) r i ≡ look r i
  cell-is r i h l = laid_cell s.count (room_in s) look r i h l

  pub room-told : (r : ℕ) → answer (unknown s r) (room_in s r) ≡ answer (room_refusal (meaning_in s look) r) (room_at (meaning_in s look) r)
  room-told r =
      let n = count-is in
      ⊎_elim
      (λ (h : r < s.count). rw (lt-leb s.count r h, room-accepted (meaning_in s look) r 0 (omega arith)) (ap Ok (sym (room-is r h))))
      (λ (h : s.count ≤ r). rw (le-leb s.count r h, room-unknown (meaning_in s look) r 0 (omega arith)) refl)
      (cases_lt r s.count)

  -- a cell that is not there
  gone : (r i : ℕ) (why : Reason) → outside s r i ≡ Some why → (put_refusal (meaning_in s look) r i ≡ Some why) × (get_refusal (meaning_in s look) r i ≡ Some why)
  gone r i why e =
      let n = count-is in
      ⊎_elim
      (λ (h : r < s.count).
      let q = room-is r h in
      ⊎_elim
      (λ (l : i < room_in s r). let u : outside s r i ≡ None = rw (lt-leb s.count r h, lt-leb (room_in s r) i l) in cc)
      (λ (l : room_in s r ≤ i).
      let u : outside s r i ≡ Some reason.PastRoom = rw (lt-leb s.count r h, le-leb (room_in s r) i l) in
      (put-past (meaning_in s look) r i (omega arith) (omega arith) ∙ sym u ∙ e, get-past (meaning_in s look) r i (omega arith) (omega arith) ∙ sym u ∙ e))
      (cases_lt i (room_in s r)))
      (λ (h : s.count ≤ r).
      let u : outside s r i ≡ Some reason.UnknownRegion = rw (le-leb s.count r h) in
      (put-unknown (meaning_in s look) r i (omega arith) ∙ sym u ∙ e, get-unknown (meaning_in s look) r i (omega arith) ∙ sym u ∙ e))
      (cases_lt r s.count)

  pub put-outside : (r i b : ℕ) (f : Fault) (x : ℕ) → Err f ≡ answer (outside s r i) x →
      (◌≡◌ {A = Result (Unit {0}) Fault} (Err f) (answer (put_refusal (meaning_in s look) r i) tt)) × (meaning_in s look ≡ after_put (meaning_in s look) r i b)
  put-outside r i b f x e = let t = err-tells (outside s r i) x f e in put_refused (meaning_in s look) r i b t.0 f (gone r i t.0 t.1).0 t.2

  pub get-outside : (r i : ℕ) (f : Fault) (x y : ℕ) → Err f ≡ answer (outside s r i) x → Err f ≡ answer (get_refusal (meaning_in s look) r i) y
  get-outside r i f x y e = let t = err-tells (outside s r i) x f e in answer-refused y _ t.0 f (gone r i t.0 t.1).1 t.2

  -- a cell that is there
  module _ (r i : ℕ) (there : outside s r i ≡ None) where
    known : r < length (meaning_in s look).regions
    known = let n = count-is in let k = (inside s r i there).0 in omega arith

    within : i < room_at (meaning_in s look) r
    within = let k = inside s r i there in let q = room-is r k.0 in let l = k.1 in omega arith

    holds : cell_at (meaning_in s look) r i ≡ look r i
    holds = let k = inside s r i there in cell-is r i k.0 k.1

    pub get-told : {x : Result ℕ Fault} → x ≡ ok_or (look r i) (refusal reason.Empty 0) → x ≡ answer (get_refusal (meaning_in s look) r i) (byte_at (meaning_in s look) r i)
    get-told {x} e = e ∙ told (look r i) refl
      where
        told : (o : Option ℕ) → look r i ≡ o → ok_or o (refusal reason.Empty 0) ≡ answer (get_refusal (meaning_in s look) r i) (byte_at (meaning_in s look) r i)
        told None q = rw (get-empty (meaning_in s look) r i known within (ap is_some (holds ∙ q))) refl
        told (Some b) q = rw (get-accepted (meaning_in s look) r i known within (ap is_some (holds ∙ q)), holds, q) refl

    pub put-filled-is : (b : ℕ) (f : Fault) → is_some (look r i) ≡ true → f ≡ refusal reason.Filled 0 →
        (◌≡◌ {A = Result (Unit {0}) Fault} (Err f) (answer (put_refusal (meaning_in s look) r i) tt)) × (meaning_in s look ≡ after_put (meaning_in s look) r i b)
    put-filled-is b f e q = put_refused (meaning_in s look) r i b reason.Filled f (put-filled (meaning_in s look) r i known within (ap is_some holds ∙ e)) q

    -- a byte is put, and no other cell changes
    pub put-is : (look' : ℕ → ℕ → Option ℕ) (b : ℕ) → is_some (look r i) ≡ false → look' r i ≡ Some b →
        ((k j : ℕ) → k < s.count → j < room_in s k → ((k ≡ r) × (j ≡ i) → ⊥) → look' k j ≡ look k j) →
        (◌≡◌ {A = Result (Unit {0}) Fault} (Ok tt) (answer (put_refusal (meaning_in s look) r i) tt)) × (meaning_in s look' ≡ after_put (meaning_in s look) r i b)
    put-is look' b e here there' =
        let k = inside s r i there in
        let laid = laid-put s.count (room_in s) look look' r i (Some b) k.0 k.1 here (λ j l n. there' r j k.0 l (λ q. n q.1)) (λ k j h n l. there' k j h l (λ q. n q.0)) in
        let same : meaning_in s look' ≡ with_cell (meaning_in s look) r i b = rw laid refl in
        put-done (meaning_in s look) r i b _ (put-accepted (meaning_in s look) r i known within (ap is_some holds ∙ e)) same

  shut-is : (n : ℕ) → open_refusal (meaning_in s look) n ≡ shut s n
  shut-is n = let e = lt-scale (s.grains - s.taken) (grains_of s.grain n) s.grain s.in_order.grained in rw (count-is, e) refl

  open-shut : (n : ℕ) (f : Fault) → Err f ≡ answer (shut s n) s.count →
      (Err f ≡ answer (open_refusal (meaning_in s look) n) (length (meaning_in s look).regions)) × (meaning_in s look ≡ after_open (meaning_in s look) n)
  open-shut n f e =
      let t = err-tells (shut s n) s.count f e in
      let q = shut-is n ∙ t.1 in
      (answer-refused _ _ t.0 f q t.2, sym (ap (λ (o : Option Reason). either o (with_region (meaning_in s look) n) (λ _. meaning_in s look)) q))

  -- a region is opened: its cells are empty, and no other changes
  open-is : (t : Regions) (look' : ℕ → ℕ → Option ℕ) (n k : ℕ) → Ok k ≡ answer (shut s n) s.count → Opened s t n →
      ((i : ℕ) → i < n → look' s.count i ≡ None) → ((k j : ℕ) → k < s.count → j < room_in s k → look' k j ≡ look k j) →
      (Ok k ≡ answer (open_refusal (meaning_in s look) n) (length (meaning_in s look).regions)) × (meaning_in t look' ≡ after_open (meaning_in s look) n)
  open-is t look' n k e o none same =
      let fine : open_refusal (meaning_in s look) n ≡ None = shut-is n ∙ ok-tells (shut s n) s.count k e in
      let number : k ≡ length (meaning_in s look).regions = ok-gives (shut s n) s.count k e ∙ sym count-is in
      let laid = laid-open s.count (room_in s) (room_in t) look look' n (opened-room s t n o) none (opened-room-old s t n o) same in
      let free : (t.grains - t.taken) * t.grain ≡ (s.grains - s.taken) * s.grain - grains_of s.grain n * s.grain =
      (let e = sub-scale (s.grains - s.taken) (grains_of s.grain n) s.grain in rw (o.grain, o.grains, o.taken) (let q : s.grains - (s.taken + grains_of s.grain n) ≡ (s.grains - s.taken) - grains_of s.grain n = omega arith in rw q e)) in
      let all : meaning_in t look' ≡ with_region (meaning_in s look) n = rw (free, o.count, o.grain, o.grains, laid) refl in
      open_done (meaning_in s look) n k _ fine number all

-- an open of the regions, whichever way it goes
pub open-told : (s t : Regions) (look : List Region → ℕ → ℕ → Option ℕ) (n : ℕ) (r : Result ℕ Fault) → r ≡ answer (shut s n) s.count → MatchResult r (λ _. Opened s t n) (λ _. t ≡ s) →
    (Opened s t n → ((i : ℕ) → i < n → look t.list s.count i ≡ None) × ((k j : ℕ) → k < s.count → j < room_in s k → look t.list k j ≡ look s.list k j)) →
    (r ≡ answer (open_refusal (meaning_in s (look s.list)) n) (length (meaning_in s (look s.list)).regions)) × (meaning_in t (look t.list) ≡ after_open (meaning_in s (look s.list)) n) × (t.grains ≡ s.grains)
open-told s t look n (Ok k) e o cells =
    let c = cells o in
    let p = open-is s (look s.list) t (look t.list) n k e o c.0 c.1 in
    (p.0, p.1, o.grains)
open-told s t look n (Err f) e o cells =
    let p = open-shut s (look s.list) n f e in
    (p.0, ap (λ (x : Regions). meaning_in x (look x.list)) o ∙ p.1, ap (λ (x : Regions). x.grains) o)
