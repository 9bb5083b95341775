-- Bytes put one by one into a region, from its first cell on.
use Rattle.std.proofs.Common.{◌≡◌, ℕ, ◌+◌, ◌<◌, ◌≤◌, List, [], ◌∷◌, ◌++◌, map, length, get_or, take, drop, set, replicate, is_some, Some, None, Ok, Err, Option, Result, unwrap_or, sym, refl, ap, ◌∙◌, append_assoc, append-nil, arith}
use Rattle.std.proofs.lemmas.List.{length-set, length-map, length-append, length-take-le, length-drop, length-replicate, get_or-set_same, get_or_at, get_or_push, get_or-replicate, set-set, set_at, set-get_or, map_more, drop_more, drop_all, take_all, length_push, get_or-map, get_or_append_left}
use Rattle.std.proofs.lemmas.List.FromFn.{fill_by_all}
use Rattle.std.proofs.lemmas.Bool.{le-ltb}
use Rattle.std.specs.List.{range_with_len}
use Rattle.packed.specs.declared.fault.Fault.{Fault}
use Rattle.packed.specs.declared.fault.Reason.{Reason}
use Rattle.packed.specs.Forms.{either}
use Rattle.cells.specs.Meaning.{Meaning, Sound, region_at, room_at, cell_at}
use Rattle.cells.specs.Calls.{answer, open_refusal, put_refusal, get_refusal, byte_at, with_cell, with_region, after_open, after_put}
use Rattle.cells.specs.Copying.{with_bytes, after_hold, copy_refusal, Copied}
use Rattle.cells.proofs.Refusing.{put-accepted, get-accepted, ok-tells, ok-gives, err-tells}
use Rattle.cells.proofs.Changing.{region-new, region-count, region-laws}

-- a region's cells when the first i bytes are put
abbrev pub front : List (Option ℕ) → List ℕ → ℕ → List (Option ℕ)
front cells bytes i = map Some (take i bytes) ++ drop i cells

abbrev pub with_front : Meaning → ℕ → List ℕ → ℕ → Meaning
with_front m r bytes i = record { total = m.total; grain = m.grain; free = m.free; regions = set m.regions r (front (region_at m r) bytes i) }

pub front-none : (m : Meaning) (r : ℕ) (bytes : List ℕ) → m ≡ with_front m r bytes 0
front-none m r bytes = rw (set-get_or m.regions r []) refl

-- one byte more
module _ (m : Meaning) (r : ℕ) (bytes : List ℕ) (i : ℕ) (known : r < length m.regions) (blank : region_at m r ≡ replicate (length bytes) None) (more : i < length bytes) where
  long : length (region_at m r) ≡ length bytes
  long = ap length blank ∙ length-replicate (length bytes) None

  before : length (map Some (take i bytes)) ≡ i
  before = length-map (take i bytes) Some ∙ length-take-le i bytes (omega arith)

  split : drop i (region_at m r) ≡ None ∷ drop (i + 1) (region_at m r)
  split =
      let l = long in
      let none : get_or (region_at m r) i None ≡ None = ap (λ (xs : List (Option ℕ)). get_or xs i None) blank ∙ get_or-replicate (length bytes) i None None more in
      drop_more (region_at m r) i None (omega arith) ∙ ap (λ (x : Option ℕ). x ∷ drop (i + 1) (region_at m r)) none

  at_front : front (region_at m r) bytes i ≡ map Some (take i bytes) ++ (None ∷ drop (i + 1) (region_at m r))
  at_front = ap (λ (xs : List (Option ℕ)). map Some (take i bytes) ++ xs) split

  held : region_at (with_front m r bytes i) r ≡ front (region_at m r) bytes i
  held = get_or-set_same m.regions r (front (region_at m r) bytes i) [] known

  pub front-accepted : put_refusal (with_front m r bytes i) r i ≡ None
  front-accepted =
      let l = long in
      let b = before in
      let n = length-set m.regions r (front (region_at m r) bytes i) in
      let size : room_at (with_front m r bytes i) r ≡ length bytes = ap length held ∙ length-append (map Some (take i bytes)) (drop i (region_at m r)) ∙ (let d = length-drop i (region_at m r) in omega arith) in
      let none : cell_at (with_front m r bytes i) r i ≡ None = ap (λ (xs : List (Option ℕ)). get_or xs i None) (held ∙ at_front) ∙ get_or_at (map Some (take i bytes)) None (drop (i + 1) (region_at m r)) None i before in
      put-accepted (with_front m r bytes i) r i (omega arith) (omega arith) (ap is_some none)

  pub front-more : with_cell (with_front m r bytes i) r i (get_or bytes i 0) ≡ with_front m r bytes (i + 1)
  front-more =
      let b : ℕ = get_or bytes i 0 in
      let rest : List (Option ℕ) = drop (i + 1) (region_at m r) in
      let one : set (region_at (with_front m r bytes i) r) i (Some b) ≡ front (region_at m r) bytes (i + 1) =
      ap (λ (xs : List (Option ℕ)). set xs i (Some b)) (held ∙ at_front) ∙ set_at (map Some (take i bytes)) None rest (Some b) i before
      ∙ sym (ap (λ (xs : List (Option ℕ)). xs ++ rest) (map_more Some bytes i 0 more) ∙ append_assoc (map Some (take i bytes)) (Some b ∷ []) rest) in
      let all : set (set m.regions r (front (region_at m r) bytes i)) r (set (region_at (with_front m r bytes i) r) i (Some b)) ≡ set m.regions r (front (region_at m r) bytes (i + 1)) =
      set-set m.regions r (front (region_at m r) bytes i) _ ∙ ap (λ (xs : List (Option ℕ)). set m.regions r xs) one in
      ap (λ (xs : List (List (Option ℕ))). record { total = m.total; grain = m.grain; free = m.free; regions = xs }) all

-- all bytes, in a region that was opened for them
pub front-all : (m : Meaning) (bytes : List ℕ) (i : ℕ) → i ≡ length bytes → with_front (with_region m (length bytes)) (length m.regions) bytes i ≡ with_bytes m bytes
front-all m bytes i e =
    let n : ℕ = length bytes in
    let m' : Meaning = with_region m n in
    let blank = region-new m n in
    let long : length (region_at m' (length m.regions)) ≡ n = ap length blank ∙ length-replicate n None in
    let full : front (region_at m' (length m.regions)) bytes i ≡ map Some bytes =
    rw (take_all i bytes (omega arith), drop_all i (region_at m' (length m.regions)) (omega arith)) (append-nil (map Some bytes)) in
    let all : set m'.regions (length m.regions) (front (region_at m' (length m.regions)) bytes i) ≡ m.regions ++ (map Some bytes ∷ []) =
    ap (λ (xs : List (Option ℕ)). set m'.regions (length m.regions) xs) full ∙ set_at m.regions (replicate n None) [] (map Some bytes) (length m.regions) refl in
    ap (λ (xs : List (List (Option ℕ))). record { total = m.total; grain = m.grain; free = m'.free; regions = xs }) all

-- what an accepted open leaves
pub opened-is : (m m' : Meaning) (n k : ℕ) → Ok k ≡ answer (open_refusal m n) (length m.regions) → m' ≡ after_open m n → (open_refusal m n ≡ None) × (k ≡ length m.regions) × (m' ≡ with_region m n)
opened-is m m' n k e q =
    let fine : open_refusal m n ≡ None = ok-tells (open_refusal m n) (length m.regions) k e in
    (fine, ok-gives (open_refusal m n) (length m.regions) k e, q ∙ ap (λ (o : Option Reason). either o (with_region m n) (λ _. m)) fine)

pub opened-blank : (m m' : Meaning) (n k : ℕ) → k ≡ length m.regions → m' ≡ with_region m n → (k < length m'.regions) × (region_at m' k ≡ replicate n None)
opened-blank m m' n k e q =
    let c = region-count m n in
    rw (q, e) (omega arith, region-new m n)

-- while the bytes are put into the region that was opened for them
module _ (m m' now : Meaning) (k : ℕ) (bytes : List ℕ) (i : ℕ) (e : Ok k ≡ answer (open_refusal m (length bytes)) (length m.regions)) (q : m' ≡ after_open m (length bytes)) (f : now ≡ with_front m' k bytes i) where
  opened : (open_refusal m (length bytes) ≡ None) × (k ≡ length m.regions) × (m' ≡ with_region m (length bytes))
  opened = opened-is m m' (length bytes) k e q

  blank-at : (k < length m'.regions) × (region_at m' k ≡ replicate (length bytes) None)
  blank-at = opened-blank m m' (length bytes) k opened.1 opened.2

  -- a put is accepted, and puts one byte more
  step-accepted : i < length bytes → put_refusal now k i ≡ None
  step-accepted more = ap (λ (x : Meaning). put_refusal x k i) f ∙ front-accepted m' k bytes i blank-at.0 blank-at.1 more

  pub step-refused : (fault : Fault) → i < length bytes → ◌≡◌ {A = Result (Unit {0}) Fault} (Err fault) (answer (put_refusal now k i) tt) → ⊥
  step-refused fault more t =
      let w = step-accepted more in
      let r = (err-tells (put_refusal now k i) tt fault t).1 in
      cc

  pub step-more : (after : Meaning) → i < length bytes → after ≡ after_put now k i (get_or bytes i 0) → after ≡ with_front m' k bytes (i + 1)
  step-more after more t =
      t ∙ ap (λ (x : Meaning). after_put x k i (get_or bytes i 0)) f
      ∙ ap (λ (o : Option Reason). either o (with_cell (with_front m' k bytes i) k i (get_or bytes i 0)) (λ _. with_front m' k bytes i)) (front-accepted m' k bytes i blank-at.0 blank-at.1 more)
      ∙ front-more m' k bytes i blank-at.0 blank-at.1 more

  -- when all are put
  pub held-is : i ≡ length bytes → now ≡ after_hold m bytes
  held-is l =
      f ∙ rw (opened.2, opened.1) (front-all m bytes i l) ∙ sym (ap (λ (o : Option Reason). either o (with_bytes m bytes) (λ _. m)) opened.0)

-- bytes that are held can be got
module _ (m : Meaning) (bytes : List ℕ) where
  pub held-region : region_at (with_bytes m bytes) (length m.regions) ≡ map Some bytes
  held-region = get_or_push m.regions (map Some bytes) [] (length m.regions) refl

  pub held-cell : (i : ℕ) → i < length bytes → cell_at (with_bytes m bytes) (length m.regions) i ≡ Some (get_or bytes i 0)
  held-cell i h = ap (λ (xs : List (Option ℕ)). get_or xs i None) held-region ∙ get_or-map Some bytes i 0 None h

  pub held-got : (i : ℕ) → i < length bytes → get_refusal (with_bytes m bytes) (length m.regions) i ≡ None
  held-got i h =
      let n = length_push m.regions (map Some bytes) in
      let l : room_at (with_bytes m bytes) (length m.regions) ≡ length bytes = ap length held-region ∙ length-map bytes Some in
      get-accepted (with_bytes m bytes) (length m.regions) i (omega arith) (omega arith) (ap is_some (held-cell i h))

  pub held_bytes : map (byte_at (with_bytes m bytes) (length m.regions)) (range_with_len 0 (length bytes)) ≡ bytes
  held_bytes = sym (fill_by_all (byte_at (with_bytes m bytes) (length m.regions)) bytes (length bytes) 0 refl (λ k h. sym (ap (λ (o : Option ℕ). unwrap_or o 0) (held-cell k h))))

  pub held-copied : open_refusal m (length bytes) ≡ None → Sound (with_bytes m bytes) → Copied m (with_bytes m bytes) (length m.regions) bytes
  held-copied fine sound = record {
    number = refl;
    count = length_push m.regions (map Some bytes);
    holds = held-region;
    others = λ s h. get_or_append_left m.regions (map Some bytes ∷ []) [] s h;
    lowers = (region-laws m (length bytes) fine).lowers;
    whole = sound.whole;
  }

-- what an accepted hold leaves
pub hold-is : (m m' : Meaning) (k : ℕ) (bytes : List ℕ) → Ok k ≡ answer (open_refusal m (length bytes)) (length m.regions) → m' ≡ after_hold m bytes → (open_refusal m (length bytes) ≡ None) × (k ≡ length m.regions) × (m' ≡ with_bytes m bytes)
hold-is m m' k bytes e q =
    let fine : open_refusal m (length bytes) ≡ None = ok-tells (open_refusal m (length bytes)) (length m.regions) k e in
    (fine, ok-gives (open_refusal m (length bytes)) (length m.regions) k e, q ∙ ap (λ (o : Option Reason). either o (with_bytes m bytes) (λ _. m)) fine)

pub copied_is : (m m' : Meaning) (k : ℕ) (bytes : List ℕ) → open_refusal m (length bytes) ≡ None → k ≡ length m.regions → m' ≡ with_bytes m bytes → Sound m' → Copied m m' k bytes
copied_is m m' k bytes fine e q sound =
    let s : Sound (with_bytes m bytes) = rw q at sound in
    rw (q, e) (held-copied m bytes fine s)

pub copy-refusal : (m : Meaning) (bytes back : List ℕ) → length bytes ≤ length back → open_refusal m (length bytes) ≡ copy_refusal m bytes back
copy-refusal m bytes back h = rw (le-ltb (length back) (length bytes) h)

pub copy_got : (m m' : Meaning) (k : ℕ) (bytes back got : List ℕ) → k ≡ length m.regions → m' ≡ with_bytes m bytes → length bytes ≤ length back →
    got ≡ map (byte_at m' k) (range_with_len 0 (length (take (length bytes) back))) → got ++ drop (length bytes) back ≡ bytes ++ drop (length bytes) back
copy_got m m' k bytes back got e q h f =
    let all : got ≡ bytes = f ∙ rw (q, e, length-take-le (length bytes) back h) (held_bytes m bytes) in
    ap (λ (xs : List ℕ). xs ++ drop (length bytes) back) all
