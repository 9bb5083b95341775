-- The laws of takers and cases, and the steps of the loops that find them.
use Rattle.std.proofs.Common.{◌≡◌, ℕ, zero, suc, ◌+◌, ◌<◌, ◌≤◌, Bool, true, false, cond, ◌&&◌, eqb, ltb, ◌≢◌, ◌⊎◌, List, length, get_or, set, replicate, Some, None, Option, sym, refl, ap, ◌∙◌, inl, inr, add-one, arith, length-set, get_or-set_other, get_or-set_same}
use lib.ListN.{length-replicate}
use Rattle.std.specs.List.{slice_get}
use Rattle.std.proofs.lemmas.Bool.{cases_eq, ltb-true, ltb-false, and_parts}
use Rattle.std.proofs.lemmas.Bool.Decides.{nat_tests}
use Rattle.packed.specs.Forms.{either}
use Rattle.table.specs.declared.row.Row.{Row}
use Rattle.table.specs.declared.row.Row.TheVariants as row
use Rattle.table.specs.Links.{bound_end, bound_end_at, next_branch, next_at, is_case, is_case_at, leads, binds, taker_below, taker_of, case_below, case_of}
use Rattle.table.specs.Linked.{link_in}

-- row m is a let whose bound part holds row n
pub record Binder (rows : List Row) (m n : ℕ) : Type 0 where
  pub below : m < n
  pub x : ℕ
  pub kind : ℕ
  pub l : ℕ
  pub body : ℕ
  pub is : slice_get rows m ≡ Some (row.Let x kind l body)
  pub holds : n < body

-- m is the greatest row below `top` that binds row n
record Greatest (rows : List Row) (n top m : ℕ) : Type 0 where
  under : m < top
  here : binds rows m n ≡ true
  above : (k : ℕ) → m < k → k < top → binds rows k n ≡ false

binder-at : (rows : List Row) (m n : ℕ) (o : Option Row) → slice_get rows m ≡ o → m < n → n < either o 0 bound_end → Binder rows m n
binder-at rows m n None e h l = absurd (omega arith)
binder-at rows m n (Some (row.Let x kind s body)) e h l = record { below = h; x = x; kind = kind; l = s; body = body; is = e; holds = l }
binder-at rows m n (Some _) e h l = absurd (omega arith)

-- a case names no next branch
case-next : (o : Option Row) → either o false is_case ≡ true → either o 0 next_branch ≡ 0
case-next None e = refl
case-next (Some (row.Branch form x0 l0 next)) e = cc
case-next (Some _) e = refl

blank : (room k : ℕ) → get_or (replicate {A = Option ℕ} room None) k None ≡ None
blank zero k = refl
blank (suc room) zero = refl
blank (suc room) (suc k) = blank room k

module _ (rows : List Row) where
  taker-more : (n m : ℕ) (b : Bool) → binds rows m n ≡ b → taker_below rows n (suc m) ≡ cond b (Some m) (taker_below rows n m)
  taker-more n m b e = ap (λ b. cond b (Some m) (taker_below rows n m)) e

  none_below : (n top : ℕ) → taker_below rows n top ≡ None → (k : ℕ) → k < top → binds rows k n ≡ false
  none_below n zero e k h = absurd (omega arith)
  none_below n (suc m) e k h = step (binds rows m n) refl (λ q. none_below n m q k)
    where
      step : (b : Bool) → binds rows m n ≡ b → (taker_below rows n m ≡ None → k < m → binds rows k n ≡ false) → binds rows k n ≡ false
      step true w again = absurd (let p = sym e ∙ taker-more n m true w in let z : ◌≡◌ {A = ℕ} 0 1 = cc in omega arith)
      step false w again = elim (cases_eq k m) [ inl q ↦ ap (λ j. binds rows j n) q ∙ w | inr d ↦ again (sym (taker-more n m false w) ∙ e) (omega arith) ]

  greatest-below : (n top m : ℕ) → taker_below rows n top ≡ Some m → Greatest rows n top m
  greatest-below n zero m e = cc
  greatest-below n (suc top) m e = step (binds rows top n) refl (greatest-below n top m)
    where
      step : (b : Bool) → binds rows top n ≡ b → (taker_below rows n top ≡ Some m → Greatest rows n top m) → Greatest rows n (suc top) m
      step true w again =
          let p = sym e ∙ taker-more n top true w in
          let q : m ≡ top = cc in
          record { under = omega arith; here = ap (λ j. binds rows j n) q ∙ w; above = λ k h l. absurd (omega arith) }
      step false w again =
          let g = again (sym (taker-more n top false w) ∙ e) in
          record {
            under = omega (arith, g.under);
            here = g.here;
            above = λ k h l. elim (cases_eq k top) [ inl q ↦ ap (λ j. binds rows j n) q ∙ w | inr d ↦ g.above k h (omega arith) ];
          }

  -- A taker is a let whose bound part holds the row, and of those the greatest.
  pub taker-binds : (n m : ℕ) → taker_of rows n ≡ Some m → Binder rows m n
  taker-binds n m e =
      let both = and_parts (ltb m n) (ltb n (bound_end_at rows m)) (greatest-below n n m e).here in
      binder-at rows m n (slice_get rows m) refl (ltb-true m n both.0) (ltb-true n (bound_end_at rows m) both.1)

  pub taker-greatest : (n m : ℕ) → taker_of rows n ≡ Some m → (k : ℕ) → m < k → k < n → binds rows k n ≡ false
  taker-greatest n m e = (greatest-below n n m e).above

  pub taker-none : (n : ℕ) → taker_of rows n ≡ None → (k : ℕ) → k < n → binds rows k n ≡ false
  taker-none n e = none_below n n e

  -- row m is a case, and below `top`
  abbrev CaseUnder : ℕ → ℕ → Type 0
  CaseUnder top m = (m < top) × (is_case_at rows m ≡ true)

  higher : (top m : ℕ) → CaseUnder top m → CaseUnder (suc top) m
  higher top m f = (let h = f.0 in omega arith, f.1)

  case-under : (b top m : ℕ) → case_below rows b top ≡ Some m → CaseUnder top m
  case-under b zero m e = cc
  case-under b (suc top) m e = step (is_case_at rows top) refl (eqb (top + 1) b) (eqb (next_at rows top) b) e (case-under top top m) (case-under b top m)
    where
      step : (one : Bool) → is_case_at rows top ≡ one → (near far : Bool) → cond (one && near) (Some top) (cond far (case_below rows top top) (case_below rows b top)) ≡ Some m → (case_below rows top top ≡ Some m → CaseUnder top m) → (case_below rows b top ≡ Some m → CaseUnder top m) → CaseUnder (suc top) m
      step true is true far e own down = let q : m ≡ top = cc in (omega arith, ap (is_case_at rows) q ∙ is)
      step true is false true e own down = higher top m (own e)
      step true is false false e own down = higher top m (down e)
      step false is near true e own down = higher top m (own e)
      step false is near false e own down = higher top m (down e)

  -- The case of a row is a case below it.
  pub case-is : (b m : ℕ) → case_of rows b ≡ Some m → (m < b) × (is_case_at rows m ≡ true)
  case-is b m e = case-under b b m e

  -- a let below row t that binds a row behind t binds t as well
  pub binds-inner : (k t n : ℕ) → k < t → t < n → binds rows k t ≡ false → binds rows k n ≡ false
  binds-inner k t n h l e = grind (arith, nat_tests)

  -- the search for the taker of row n, from a row on down
  abbrev pub taker_from : ℕ → Option ℕ → Option ℕ
  taker_from n None = None
  taker_from n (Some t) = taker_below rows n (suc t)

  -- below row t the search may begin at the taker of t
  taker-skips : (n t m : ℕ) → m ≤ t → t < n → taker_below rows n m ≡ taker_from n (taker_below rows t m)
  taker-skips n t zero h l = refl
  taker-skips n t (suc m) h l = step (binds rows m t) refl (taker-skips n t m (omega arith) l)
    where
      step : (b : Bool) → binds rows m t ≡ b → taker_below rows n m ≡ taker_from n (taker_below rows t m) → taker_below rows n (suc m) ≡ taker_from n (taker_below rows t (suc m))
      step true w again = ap (taker_from n) (sym (taker-more t m true w))
      step false w again = taker-more n m false (binds-inner m t n h l w) ∙ again ∙ ap (taker_from n) (sym (taker-more t m false w))

  -- the walk for the taker of row n stands at row t
  pub record Walk (n t : ℕ) : Type 0 where
    pub same : taker_below rows n (suc t) ≡ taker_of rows n
    pub low : t < n

  -- where row t is no let, or one whose bound part ends too early, the walk goes on with the taker of t
  module _ (n t : ℕ) (at : Walk n t) (short : bound_end_at rows t ≤ n) where
    walk-goes : taker_from n (taker_of rows t) ≡ taker_of rows n
    walk-goes =
        let no : binds rows t n ≡ false = grind (arith, nat_tests) in
        let low = at.low in
        sym (taker-skips n t t (omega arith) low) ∙ sym (taker-more n t false no) ∙ at.same

    pub walk-falls : (u : ℕ) → taker_of rows t ≡ Some u → u < t
    walk-falls u e = (greatest-below t t u e).under

    pub walk-on : (u : ℕ) → taker_of rows t ≡ Some u → Walk n u
    walk-on u e =
        let low = at.low in
        let under = walk-falls u e in
        record { same = ap (taker_from n) (sym e) ∙ walk-goes; low = omega arith }

    pub walk-ends : taker_of rows t ≡ None → taker_of rows n ≡ None
    walk-ends e = sym walk-goes ∙ ap (taker_from n) e

  -- the takers of the rows below n are known, and behind the rows there is none
  pub record Takers (takers : List (Option ℕ)) (n : ℕ) : Type 0 where
    pub room : length takers ≡ 1024
    pub known : (k : ℕ) → k < n → get_or takers k None ≡ taker_of rows k
    pub behind : (k : ℕ) → length rows ≤ k → get_or takers k None ≡ None

  pub takers-none : (room : ℕ) → room ≡ 1024 → Takers (replicate room None) 1
  takers-none room e =
      record {
        room = length-replicate room None ∙ e;
        known = λ k h. blank room k ∙ ap (taker_of rows) (none k h);
        behind = λ k h. blank room k;
      }
    where
      none : (k : ℕ) → k < 1 → 0 ≡ k
      none k h = omega arith

  -- The cases of rows up to n are known, of a row behind n what the rows below n say of it, and behind the rows none.
  pub record Cases (cases : List (Option ℕ)) (n : ℕ) : Type 0 where
    pub room : length cases ≡ 1024
    pub known : (k : ℕ) → k ≤ n → k < length rows → get_or cases k None ≡ case_of rows k
    pub ahead : (k : ℕ) → n ≤ k → k < length rows → get_or cases k None ≡ case_below rows k n
    pub behind : (k : ℕ) → length rows ≤ k → get_or cases k None ≡ None

  pub cases_none : (room : ℕ) → room ≡ 1024 → Cases (replicate room None) 0
  cases_none room e =
      record {
        room = length-replicate room None ∙ e;
        known = λ k h l. blank room k ∙ ap (case_of rows) (none k h);
        ahead = λ k h l. blank room k;
        behind = λ k h. blank room k;
      }
    where
      none : (k : ℕ) → k ≤ 0 → 0 ≡ k
      none k h = omega arith

  -- links that are known for each row and none behind the rows are those of every number
  pub links-all : (links : List (Option ℕ)) (of' : ℕ → Option ℕ) → ((k : ℕ) → k < length rows → get_or links k None ≡ of' k) → ((k : ℕ) → length rows ≤ k → get_or links k None ≡ None) → (n : ℕ) → link_in links n ≡ cond (ltb n (length rows)) (of' n) None
  links-all links of' known behind n = step (ltb n (length rows)) refl
    where
      step : (b : Bool) → ltb n (length rows) ≡ b → get_or links n None ≡ cond b (of' n) None
      step true y = known n (ltb-true n (length rows) y)
      step false y = behind n (ltb-false n (length rows) y)

  pub lead-here : (b n : ℕ) → n < b → leads rows n ≡ b → case_below rows b (suc n) ≡ cond (is_case_at rows n) (Some n) (case_of rows n)
  lead-here b n h e = grind (arith, nat_tests)

  pub lead-other : (b n : ℕ) → n < b → leads rows n ≢ b → case_below rows b (suc n) ≡ case_below rows b n
  lead-other b n h d = let none = case-next (slice_get rows n) in grind (arith, nat_tests)

  module _ (cases : List (Option ℕ)) (n : ℕ) (at : Cases cases n) (below : n < length rows) (few : length rows ≤ 1024) where
    -- one row more, where the rows up to n keep their cases
    cases-more : (after : List (Option ℕ)) → length after ≡ 1024 → ((k : ℕ) → k ≤ n → get_or after k None ≡ get_or cases k None) → ((k : ℕ) → n < k → k < length rows → get_or after k None ≡ case_below rows k (suc n)) → ((k : ℕ) → length rows ≤ k → get_or after k None ≡ None) → Cases after (n + 1)
    cases-more after room kept new behind =
        record {
          room = room;
          known = λ k h l. elim (cases_eq k (suc n)) [
            | inl q ↦ new k (omega arith) l ∙ ap (case_below rows k) (sym q)
            | inr d ↦ kept k (omega arith) ∙ at.known k (omega arith) l
          ];
          ahead = λ k h l. new k (omega arith) l ∙ ap (case_below rows k) (sym (add-one n));
          behind = behind;
        }

    -- row n leads to a row behind it, where its case is noted
    pub cases-noted : (to : ℕ) (from : Option ℕ) → to ≡ leads rows n → from ≡ cond (is_case_at rows n) (Some n) (get_or cases n None) → n < to → to < length rows → Cases (set cases to from) (n + 1)
    cases-noted to from e f h l =
        let room = at.room in
        let own : cond (is_case_at rows n) (Some n) (get_or cases n None) ≡ cond (is_case_at rows n) (Some n) (case_of rows n) = ap (cond (is_case_at rows n) (Some n)) (at.known n (omega arith) below) in
        cases-more (set cases to from) (length-set cases to from ∙ room)
        (λ k m. get_or-set_other cases to k from None (omega arith))
        (λ k m p. elim (cases_eq k to) [
          | inl q ↦ ap (λ k. get_or (set cases to from) k None) q ∙ get_or-set_same cases to from None (omega arith) ∙ f ∙ own ∙ sym (lead-here k n m (sym e ∙ sym q))
          | inr d ↦ get_or-set_other cases to k from None d ∙ at.ahead k (omega arith) p ∙ sym (lead-other k n m (λ r. d (sym r ∙ sym e)))
        ])
        (λ k m. get_or-set_other cases to k from None (omega arith) ∙ at.behind k m)

    -- it leads to none, or to one that is none of the rows behind it
    pub cases-kept : (leads rows n ≤ n) ⊎ (length rows ≤ leads rows n) → Cases cases (n + 1)
    cases-kept out = cases-more cases at.room (λ k m. refl) (λ k m p. at.ahead k (omega arith) p ∙ sym (lead-other k n m (λ r. omega arith))) at.behind
