-- What a put and an open change, and what they leave.
use Rattle.std.proofs.Common.{◌≡◌, ℕ, zero, suc, ◌+◌, ◌<◌, ◌≤◌, true, false, ◌≢◌, List, [], ◌∷◌, ◌++◌, length, get_or, set, replicate, is_some, Some, None, Option, refl, ap, ◌∙◌, ⊎_elim, arith}
use Rattle.std.proofs.lemmas.List.{length-set, get_or-set_same, get_or-set_other, get_or_push, get_or_append_left, get_or_past, length_push, length-replicate}
use Rattle.std.proofs.lemmas.Bool.{cases_eq, cases_lt, cases_Bool}
use Rattle.std.proofs.lemmas.Bool.Decides.{nat_tests}
use Rattle.packed.specs.declared.fault.Reason.{Reason}
use Rattle.packed.specs.Forms.{either}
use Rattle.cells.specs.Meaning.{Meaning, Sound, most_regions, most_cells, region_at, room_at, cell_at, rounded, taken}
use Rattle.cells.specs.Calls.{put_refusal, get_refusal, open_refusal, with_cell, with_region, after_put, after_open}
use Rattle.cells.specs.Laws.{PutLaws, OpenLaws, Laws}
use Rattle.cells.proofs.Refusing.{put-filled, get-accepted}

pub taken-push : (g : ℕ) (regions : List (List (Option ℕ))) (cells : List (Option ℕ)) → taken g (regions ++ (cells ∷ [])) ≡ taken g regions + rounded g (length cells)
taken-push g [] cells = omega arith
taken-push g (x ∷ xs) cells = let e = taken-push g xs cells in omega arith

-- a region that is as long as the one before takes as much
pub taken-set : (g : ℕ) (regions : List (List (Option ℕ))) (r : ℕ) (cells : List (Option ℕ)) → length cells ≡ length (get_or regions r []) → taken g (set regions r cells) ≡ taken g regions
taken-set g [] r cells e = refl
taken-set g (x ∷ xs) zero cells e = rw e refl
taken-set g (x ∷ xs) (suc r) cells e = ap (λ (n : ℕ). rounded g (length x) + n) (taken-set g xs r cells e)

pub none-since : (o : Option ℕ) → is_some o ≡ false → o ≡ None
none-since None e = refl
none-since (Some x) e = cc

pub put-known : (m : Meaning) (r i : ℕ) → put_refusal m r i ≡ None → r < length m.regions
put-known m r i fine = grind (arith, nat_tests)

pub put-inside : (m : Meaning) (r i : ℕ) → put_refusal m r i ≡ None → i < room_at m r
put-inside m r i fine = grind (arith, nat_tests)

pub put-into-empty : (m : Meaning) (r i : ℕ) → put_refusal m r i ≡ None → cell_at m r i ≡ None
put-into-empty m r i fine = ⊎_elim
    (λ (e : is_some (cell_at m r i) ≡ true).
    let f = put-filled m r i (put-known m r i fine) (put-inside m r i fine) e in
    cc)
    (λ (e : is_some (cell_at m r i) ≡ false). none-since (cell_at m r i) e)
    (cases_Bool (is_some (cell_at m r i)))

-- one cell of one region is filled
module _ (m : Meaning) (r i b : ℕ) (known : r < length m.regions) (within : i < room_at m r) where
  pub cell-region : region_at (with_cell m r i b) r ≡ set (region_at m r) i (Some b)
  cell-region = get_or-set_same m.regions r (set (region_at m r) i (Some b)) [] known

  pub cell_same : cell_at (with_cell m r i b) r i ≡ Some b
  cell_same = ap (λ (xs : List (Option ℕ)). get_or xs i None) cell-region ∙ get_or-set_same (region_at m r) i (Some b) None within

  pub region-other : (s : ℕ) → s ≢ r → region_at (with_cell m r i b) s ≡ region_at m s
  region-other s ne = get_or-set_other m.regions r s (set (region_at m r) i (Some b)) [] ne

  pub cell_other : (s j : ℕ) → ((s ≡ r) × (j ≡ i) → ⊥) → cell_at (with_cell m r i b) s j ≡ cell_at m s j
  cell_other s j ne = ⊎_elim
      (λ (e : s ≡ r). rw e (ap (λ (xs : List (Option ℕ)). get_or xs j None) cell-region ∙ get_or-set_other (region_at m r) i j (Some b) None (λ q. ne (e, q))))
      (λ (e : s ≢ r). ap (λ (xs : List (Option ℕ)). get_or xs j None) (region-other s e))
      (cases_eq s r)

  pub cell-count : length (with_cell m r i b).regions ≡ length m.regions
  cell-count = length-set m.regions r (set (region_at m r) i (Some b))

  pub cell-rooms : (s : ℕ) → room_at (with_cell m r i b) s ≡ room_at m s
  cell-rooms s = ⊎_elim
      (λ (e : s ≡ r). rw e (ap length cell-region ∙ length-set (region_at m r) i (Some b)))
      (λ (e : s ≢ r). ap length (region-other s e))
      (cases_eq s r)

  pub cell_laws : PutLaws m (with_cell m r i b) r i b
  cell_laws =
      let c = cell-count in
      let q = cell-rooms r in
      let v = cell_same in
      let g : get_refusal (with_cell m r i b) r i ≡ None = get-accepted (with_cell m r i b) r i (omega arith) (omega arith) (ap is_some v) in
      record {
        got = rw (g, v) refl;
        again = put-filled (with_cell m r i b) r i (omega arith) (omega arith) (ap is_some v);
        others = cell_other;
        count = c;
        rooms = cell-rooms;
        free = refl;
      }

-- one region more
module _ (m : Meaning) (n : ℕ) where
  pub region-new : region_at (with_region m n) (length m.regions) ≡ replicate n None
  region-new = get_or_push m.regions (replicate n None) [] (length m.regions) refl

  pub region-old : (s : ℕ) → s < length m.regions → region_at (with_region m n) s ≡ region_at m s
  region-old s h = get_or_append_left m.regions (replicate n None ∷ []) [] s h

  pub region-count : length (with_region m n).regions ≡ length m.regions + 1
  region-count = length_push m.regions (replicate n None)

  pub region-laws : open_refusal m n ≡ None → OpenLaws m (with_region m n) n
  region-laws fine = record {
    count = region-count;
    new = region-new;
    others = region-old;
    lowers = let h : rounded m.grain n ≤ m.free = grind (arith, nat_tests) in omega arith;
  }

-- a filled cell lies in an open region
pub filled-known : (m : Meaning) (s j c : ℕ) → cell_at m s j ≡ Some c → s < length m.regions
filled-known m s j c e = ⊎_elim
    (λ (h : s < length m.regions). h)
    (λ (h : length m.regions ≤ s).
    let none : cell_at m s j ≡ None = ap (λ (xs : List (Option ℕ)). get_or xs j None) (get_or_past m.regions s [] h) in
    cc)
    (cases_lt s (length m.regions))

pub sound-cell : (m : Meaning) (r i b : ℕ) → r < length m.regions → i < room_at m r → Sound m → Sound (with_cell m r i b)
sound-cell m r i b known within sound = record {
  grained = sound.grained;
  few = rw (cell-count m r i b known within) sound.few;
  roomy = λ s h. let h' = rw (cell-count m r i b known within) at h in rw (cell-rooms m r i b known within s) (sound.roomy s h');
  whole = let e = taken-set m.grain m.regions r (set (region_at m r) i (Some b)) (length-set (region_at m r) i (Some b)) in let w = sound.whole in rw e w;
}

pub sound-region : (m : Meaning) (n : ℕ) → open_refusal m n ≡ None → Sound m → Sound (with_region m n)
sound-region m n fine sound =
    let c = region-count m n in
    let low : 1 ≤ n = grind (arith, nat_tests) in
    let high : n ≤ most_cells = grind (arith, nat_tests) in
    let few : length m.regions < most_regions = grind (arith, nat_tests) in
    let free : rounded m.grain n ≤ m.free = grind (arith, nat_tests) in
    let w = sound.whole in
    let t : taken m.grain (with_region m n).regions ≡ taken m.grain m.regions + rounded m.grain n = taken-push m.grain m.regions (replicate n None) ∙ ap (λ (k : ℕ). taken m.grain m.regions + rounded m.grain k) (length-replicate n None) in
    record {
      grained = sound.grained;
      few = omega arith;
      roomy = λ s h. ⊎_elim
          (λ (l : s < length m.regions). rw (region-old m n s l) (sound.roomy s l))
          (λ (l : length m.regions ≤ s).
          let e : s ≡ length m.regions = omega arith in
          let q : room_at (with_region m n) s ≡ n = rw e (ap length (region-new m n) ∙ length-replicate n None) in
          rw q (low, high))
          (cases_lt s (length m.regions));
      whole = omega arith;
    }

-- whichever way a call goes
pub after-put : (P : Meaning → Type 0) (m : Meaning) (r i b : ℕ) → P m → (put_refusal m r i ≡ None → P (with_cell m r i b)) → P (after_put m r i b)
after-put P m r i b old new = after (put_refusal m r i) refl
  where
    after : (o : Option Reason) → put_refusal m r i ≡ o → P (either o (with_cell m r i b) (λ _. m))
    after None e = new e
    after (Some why) e = old

pub open-after : (P : Meaning → Type 0) (m : Meaning) (n : ℕ) → P m → (open_refusal m n ≡ None → P (with_region m n)) → P (after_open m n)
open-after P m n old new = after (open_refusal m n) refl
  where
    after : (o : Option Reason) → open_refusal m n ≡ o → P (either o (with_region m n) (λ _. m))
    after None e = new e
    after (Some why) e = old

pub all_laws : Laws
all_laws = record {
  filled = λ m r i b fine. rw fine (cell_laws m r i b (put-known m r i fine) (put-inside m r i fine));
  opened = λ m n fine. rw fine (region-laws m n fine);
  stays_put = λ m r i b s j c e. after-put (λ x. cell_at x s j ≡ Some c) m r i b e (λ fine.
      cell_other m r i b (put-known m r i fine) (put-inside m r i fine) s j (λ same.
      let q : cell_at m s j ≡ None = rw (same.0, same.1) (put-into-empty m r i fine) in
      cc) ∙ e);
  stays_open = λ m n s j c e. open-after (λ x. cell_at x s j ≡ Some c) m n e (λ fine. ap (λ (xs : List (Option ℕ)). get_or xs j None) (region-old m n s (filled-known m s j c e)) ∙ e);
  sound_new = λ n g h. record { grained = h; few = omega arith; roomy = λ r l. absurd (omega arith); whole = omega arith };
  sound_put = λ m r i b sound. after-put Sound m r i b sound (λ fine. sound-cell m r i b (put-known m r i fine) (put-inside m r i fine) sound);
  sound_open = λ m n sound. open-after Sound m n sound (λ fine. sound-region m n fine sound);
}
