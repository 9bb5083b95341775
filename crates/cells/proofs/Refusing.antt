-- What each call answers and leaves, ground by ground.
use Rattle.std.proofs.Common.{◌≡◌, ℕ, ◌<◌, ◌≤◌, true, false, ◌⊎◌, length, is_some, Some, None, Ok, Err, Option, Result, refl, ap, inl, inr, arith}
use Rattle.std.proofs.lemmas.Bool.{le-leb, lt-leb, le-ltb, ne_eqb, eq-eqb}
use Rattle.std.proofs.lemmas.Bool.Decides.{nat_tests}
use Rattle.packed.specs.declared.fault.Fault.{Fault}
use Rattle.packed.specs.declared.fault.Reason.{Reason}
use Rattle.packed.specs.declared.fault.Reason.TheVariants as reason
use Rattle.packed.specs.Packing.{refusal}
use Rattle.cells.specs.Meaning.{Meaning, most_regions, most_cells, room_at, cell_at, rounded}
use Rattle.cells.specs.Calls.{room_refusal, put_refusal, get_refusal, open_refusal, answer, with_cell, with_region, after_put, after_open}

module _ (m : Meaning) (r i : ℕ) where
  pub room-unknown : length m.regions ≤ r → room_refusal m r ≡ Some reason.UnknownRegion
  room-unknown h = rw (le-leb (length m.regions) r h)

  pub room-accepted : r < length m.regions → room_refusal m r ≡ None
  room-accepted h = rw (lt-leb (length m.regions) r h)

  pub put-unknown : length m.regions ≤ r → put_refusal m r i ≡ Some reason.UnknownRegion
  put-unknown h = rw (le-leb (length m.regions) r h)

  pub put-past : r < length m.regions → room_at m r ≤ i → put_refusal m r i ≡ Some reason.PastRoom
  put-past h l = rw (lt-leb (length m.regions) r h, le-leb (room_at m r) i l)

  pub put-filled : r < length m.regions → i < room_at m r → is_some (cell_at m r i) ≡ true → put_refusal m r i ≡ Some reason.Filled
  put-filled h l c = rw (lt-leb (length m.regions) r h, lt-leb (room_at m r) i l, c)

  pub put-accepted : r < length m.regions → i < room_at m r → is_some (cell_at m r i) ≡ false → put_refusal m r i ≡ None
  put-accepted h l c = rw (lt-leb (length m.regions) r h, lt-leb (room_at m r) i l, c)

  pub get-unknown : length m.regions ≤ r → get_refusal m r i ≡ Some reason.UnknownRegion
  get-unknown h = rw (le-leb (length m.regions) r h)

  pub get-past : r < length m.regions → room_at m r ≤ i → get_refusal m r i ≡ Some reason.PastRoom
  get-past h l = rw (lt-leb (length m.regions) r h, le-leb (room_at m r) i l)

  pub get-empty : r < length m.regions → i < room_at m r → is_some (cell_at m r i) ≡ false → get_refusal m r i ≡ Some reason.Empty
  get-empty h l c = rw (lt-leb (length m.regions) r h, lt-leb (room_at m r) i l, c)

  pub get-accepted : r < length m.regions → i < room_at m r → is_some (cell_at m r i) ≡ true → get_refusal m r i ≡ None
  get-accepted h l c = rw (lt-leb (length m.regions) r h, lt-leb (room_at m r) i l, c)

  -- what a refused put, and an accepted one, promises
  pub put_refused : (b : ℕ) (why : Reason) (f : Fault) → put_refusal m r i ≡ Some why → f ≡ refusal why 0 →
      (◌≡◌ {A = Result (Unit {0}) Fault} (Err f) (answer (put_refusal m r i) tt)) × (m ≡ after_put m r i b)
  put_refused b why f e q = rw (e, q) (refl, refl)

  pub put-done : (b : ℕ) (m' : Meaning) → put_refusal m r i ≡ None → m' ≡ with_cell m r i b →
      (◌≡◌ {A = Result (Unit {0}) Fault} (Ok tt) (answer (put_refusal m r i) tt)) × (m' ≡ after_put m r i b)
  put-done b m' e q = rw e (refl, q)

module _ (m : Meaning) (n : ℕ) where
  pub open-accepted : 0 < n → n ≤ most_cells → length m.regions < most_regions → rounded m.grain n ≤ m.free → open_refusal m n ≡ None
  open-accepted a b c d = rw (ne_eqb n 0 (λ e. omega arith), le-ltb most_cells n b, lt-leb most_regions (length m.regions) c, le-ltb m.free (rounded m.grain n) d)

  pub open-ground : (n ≡ 0) ⊎ ((most_cells < n) ⊎ ((most_regions ≤ length m.regions) ⊎ (m.free < rounded m.grain n))) → open_refusal m n ≡ Some reason.OpenRefused
  open-ground (inl a) = rw (eq-eqb n 0 a)
  open-ground (inr (inl b)) = grind (arith, nat_tests)
  open-ground (inr (inr (inl c))) = grind (arith, nat_tests)
  open-ground (inr (inr (inr d))) = grind (arith, nat_tests)

  pub open_done : (k : ℕ) (m' : Meaning) → open_refusal m n ≡ None → k ≡ length m.regions → m' ≡ with_region m n →
      (Ok k ≡ answer (open_refusal m n) (length m.regions)) × (m' ≡ after_open m n)
  open_done k m' e h q = rw e (ap Ok h, q)

  pub open-refused : (k : ℕ) (f : Fault) → open_refusal m n ≡ Some reason.OpenRefused → f ≡ refusal reason.OpenRefused 0 →
      (◌≡◌ {A = Result ℕ Fault} (Err f) (answer (open_refusal m n) k)) × (m ≡ after_open m n)
  open-refused k f e q = rw (e, q) (refl, refl)

-- a refused answer of any kind
pub answer-refused : {X : Type 0} (x : X) (o : Option Reason) (why : Reason) (f : Fault) → o ≡ Some why → f ≡ refusal why 0 → Err f ≡ answer o x
answer-refused x o why f e q = rw (e, q)

-- what an answer tells of the refusal
pub ok-tells : {X : Type 0} (o : Option Reason) (a x : X) → Ok x ≡ answer o a → o ≡ None
ok-tells None a x e = refl
ok-tells (Some why) a x e = cc

pub ok-gives : {X : Type 0} (o : Option Reason) (a x : X) → Ok x ≡ answer o a → x ≡ a
ok-gives None a x e = cc
ok-gives (Some why) a x e = cc

pub err-tells : {X : Type 0} (o : Option Reason) (a : X) (f : Fault) → Err f ≡ answer o a → (why : Reason) × (o ≡ Some why) × (f ≡ refusal why 0)
err-tells None a f e = cc
err-tells (Some why) a f e = (why, refl, cc)
