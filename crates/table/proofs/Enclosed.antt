-- In rows that stand in descent order, takers and cases are what encloses a row.
use Rattle.std.proofs.Common.{◌≡◌, ℕ, zero, suc, ◌+◌, ◌<◌, ◌≤◌, Bool, true, false, cond, ◌&&◌, eqb, ltb, ◌≢◌, ◌⊎◌, List, length, Some, None, Option, sym, refl, ap, ◌∙◌, subst, inl, inr, add-one, arith}
use Rattle.std.specs.List.{slice_get}
use Rattle.std.proofs.lemmas.Bool.{cases_eq, eqb-true, lt-ltb, and_from}
use Rattle.packed.specs.Forms.{either}
use Rattle.table.specs.declared.row.Row.{Row}
use Rattle.table.specs.declared.row.Row.TheVariants as row
use Rattle.table.specs.Enclosing.{BoundIn, TakerAt, BranchOf}
use Rattle.table.specs.Enclosing.BranchOf.{first as branch-first, next as branch-next}
use Rattle.table.specs.Links.{binds, bound_end, bound_end_at, case_below, case_for, case_of, is_case, is_case_at, leads, next_at, next_branch, taker_for, taker_of}
use Rattle.table.specs.Order.{is_branch}
use Rattle.table.specs.Spans.{Spans, Branches, Bodies}
use Rattle.table.specs.Spans.Spans.{variable, number, sum, difference, region, start, past, after, construct, bind, test, call, case}
use Rattle.table.specs.Spans.Branches.{last, more}
use Rattle.table.specs.Spans.Bodies.{none, body as standing}
use Rattle.table.proofs.Linking.{Binder, lead-here, lead-other, taker-binds, taker-greatest, taker-none}
use Rattle.table.proofs.Walking.{row_below}

-- one place has one row
one-row : (o : Option Row) (q r : Row) → o ≡ Some q → o ≡ Some r → q ≡ r
one-row o q r a b = cc

-- a row that is a case, and one that names a branch
case-of-test : (o : Option Row) → either o false is_case ≡ true → (x : ℕ) × (o ≡ Some (row.Case x))
case-of-test None e = cc
case-of-test (Some (row.Case x)) e = (x, refl)
case-of-test (Some _) e = cc

pub record Names (o : Option Row) (b : ℕ) : Type 0 where
  pub form : ℕ
  pub x0 : ℕ
  pub l0 : ℕ
  pub is : o ≡ Some (row.Branch form x0 l0 b)

names-of-test : (o : Option Row) (b : ℕ) → 0 < b → either o 0 next_branch ≡ b → Names o b
names-of-test None b p e = absurd (omega arith)
names-of-test (Some (row.Branch form x0 l0 next)) b p e = record { form = form; x0 = x0; l0 = l0; is = ap (λ k. Some (row.Branch form x0 l0 k)) e }
names-of-test (Some _) b p e = absurd (omega arith)

module _ (rows : List Row) where
  -- what stands below row m, by the row, where the rows up to e − 1 are row m and what hangs on it
  abbrev Below : ℕ → ℕ → Row → Type 0
  Below m e (row.Let x kind l body) = Spans rows (m + 1) body
  Below m e (row.Case x) = Branches rows (m + 1) e
  Below m e (row.Branch form x0 l0 next) = (0 < next → Spans rows (m + 1) next × Branches rows next e)
  Below m e _ = Unit {0}

  -- row m and what hangs on it end at or before row e; a branch has a case
  pub record Located (m e : ℕ) : Type 0 where
    pub end : ℕ
    pub inside : end ≤ e
    pub rise : m < end
    pub row : Row
    pub is : slice_get rows m ≡ Some row
    pub hangs : Below m end row
    pub cased : is_branch row ≡ true → (c : ℕ) × BranchOf rows c m

  not-here : {X : Type 0} → false ≡ true → X
  not-here e = cc

  mutual
    spans-rise : {n e : ℕ} → Spans rows n e → n < e
    spans-rise (variable h) = omega arith
    spans-rise (number h) = omega arith
    spans-rise (sum h) = omega arith
    spans-rise (difference h) = omega arith
    spans-rise (region h s) = let z = spans-rise s in omega arith
    spans-rise (start h s) = let z = spans-rise s in omega arith
    spans-rise (past h s) = let z = spans-rise s in omega arith
    spans-rise (after h s) = let z = spans-rise s in omega arith
    spans-rise (construct h) = omega arith
    spans-rise (bind h s t) = let y = spans-rise s in let z = spans-rise t in omega arith
    spans-rise (test h s t) = let y = spans-rise s in let z = spans-rise t in omega arith
    spans-rise (call h) = omega arith
    spans-rise (case h b) = let z = branches-rise b in omega arith

    branches-rise : {n e : ℕ} → Branches rows n e → n < e
    branches-rise (last h s) = let z = spans-rise s in omega arith
    branches-rise (more h p s b) = let y = spans-rise s in let z = branches-rise b in omega arith

  -- the row at which a part starts is in its place
  spans-here : {n e : ℕ} → Spans rows n e → Located n e
  spans-here (variable {n} h) = record { end = n + 1; inside = omega arith; rise = omega arith; row = _; is = h; hangs = tt; cased = not-here }
  spans-here (number {n} h) = record { end = n + 1; inside = omega arith; rise = omega arith; row = _; is = h; hangs = tt; cased = not-here }
  spans-here (sum {n} h) = record { end = n + 1; inside = omega arith; rise = omega arith; row = _; is = h; hangs = tt; cased = not-here }
  spans-here (difference {n} h) = record { end = n + 1; inside = omega arith; rise = omega arith; row = _; is = h; hangs = tt; cased = not-here }
  spans-here (region {n} {e} h s) = record { end = e; inside = omega arith; rise = spans-rise (region h s); row = _; is = h; hangs = tt; cased = not-here }
  spans-here (start {n} {e} h s) = record { end = e; inside = omega arith; rise = spans-rise (start h s); row = _; is = h; hangs = tt; cased = not-here }
  spans-here (past {n} {e} h s) = record { end = e; inside = omega arith; rise = spans-rise (past h s); row = _; is = h; hangs = tt; cased = not-here }
  spans-here (after {n} {e} h s) = record { end = e; inside = omega arith; rise = spans-rise (after h s); row = _; is = h; hangs = tt; cased = not-here }
  spans-here (construct {n} h) = record { end = n + 1; inside = omega arith; rise = omega arith; row = _; is = h; hangs = tt; cased = not-here }
  spans-here (bind {n} {m} {e} h s t) = record { end = e; inside = omega arith; rise = spans-rise (bind h s t); row = _; is = h; hangs = s; cased = not-here }
  spans-here (test {n} {m} {e} h s t) = record { end = e; inside = omega arith; rise = spans-rise (test h s t); row = _; is = h; hangs = tt; cased = not-here }
  spans-here (call {n} h) = record { end = n + 1; inside = omega arith; rise = omega arith; row = _; is = h; hangs = tt; cased = not-here }
  spans-here (case {n} {e} h b) = record { end = e; inside = omega arith; rise = spans-rise (case h b); row = _; is = h; hangs = b; cased = not-here }

  branches-here : {n e : ℕ} (c : ℕ) → Branches rows n e → BranchOf rows c n → Located n e
  branches-here c (last {n} {e} h s) of' = record { end = e; inside = omega arith; rise = branches-rise (last h s); row = _; is = h; hangs = λ p. absurd (omega arith); cased = λ z. (c, of') }
  branches-here c (more {n} {m} {e} h p s b) of' = record { end = e; inside = omega arith; rise = branches-rise (more h p s b); row = _; is = h; hangs = λ z. (s, b); cased = λ z. (c, of') }

  -- a place in a part is one in a longer part
  wider : {m e : ℕ} (f : ℕ) → e ≤ f → Located m e → Located m f
  wider f h p = let i = p.inside in record { end = p.end; inside = omega arith; rise = p.rise; row = p.row; is = p.is; hangs = p.hangs; cased = p.cased }

  -- the row at which a part starts, or one behind it
  from-here : {n e : ℕ} (m : ℕ) → n ≤ m → Located n e → (n + 1 ≤ m → Located m e) → Located m e
  from-here {n} {e} m h p below = elim (cases_eq m n) [ inl q ↦ subst (λ k. Located k e) (sym q) p | inr d ↦ below (omega arith) ]

  -- the former of two parts, or the latter
  in_two : {X : Type 0} (m k : ℕ) → (m < k → X) → (k ≤ m → X) → X
  in_two m k a b = elim (below_or m k) [ inl h ↦ a h | inr h ↦ b h ]
    where
      below_or : (m k : ℕ) → (m < k) ⊎ (k ≤ m)
      below_or m zero = inr (omega arith)
      below_or zero (suc k) = inl (omega arith)
      below_or (suc m) (suc k) = elim (below_or m k) [ inl h ↦ inl (omega arith) | inr h ↦ inr (omega arith) ]

  mutual
    spans-at : {n e : ℕ} → Spans rows n e → (i : ℕ) → n ≤ i → i < e → Located i e
    spans-at (variable h) i a b = from-here i a (spans-here (variable h)) (λ d. absurd (omega arith))
    spans-at (number h) i a b = from-here i a (spans-here (number h)) (λ d. absurd (omega arith))
    spans-at (sum h) i a b = from-here i a (spans-here (sum h)) (λ d. absurd (omega arith))
    spans-at (difference h) i a b = from-here i a (spans-here (difference h)) (λ d. absurd (omega arith))
    spans-at (region h s) i a b = from-here i a (spans-here (region h s)) (λ d. spans-at s i d b)
    spans-at (start h s) i a b = from-here i a (spans-here (start h s)) (λ d. spans-at s i d b)
    spans-at (past h s) i a b = from-here i a (spans-here (past h s)) (λ d. spans-at s i d b)
    spans-at (after h s) i a b = from-here i a (spans-here (after h s)) (λ d. spans-at s i d b)
    spans-at (construct h) i a b = from-here i a (spans-here (construct h)) (λ d. absurd (omega arith))
    spans-at (bind {n} {m} {e} h s t) i a b = from-here i a (spans-here (bind h s t)) (λ d. in_two i m (λ l. wider e (let z = spans-rise t in omega arith) (spans-at s i d l)) (λ l. spans-at t i l b))
    spans-at (test {n} {m} {e} h s t) i a b = from-here i a (spans-here (test h s t)) (λ d. in_two i m (λ l. wider e (let z = spans-rise t in omega arith) (spans-at s i d l)) (λ l. spans-at t i l b))
    spans-at (call h) i a b = from-here i a (spans-here (call h)) (λ d. absurd (omega arith))
    spans-at (case {n} h w) i a b = from-here i a (spans-here (case h w)) (λ d. branches_at n w (branch-first h w) i d b)

    branches_at : {n e : ℕ} (c : ℕ) → Branches rows n e → BranchOf rows c n → (i : ℕ) → n ≤ i → i < e → Located i e
    branches_at c (last h s) of' i a b = from-here i a (branches-here c (last h s) of') (λ d. spans-at s i d b)
    branches_at c (more {n} {m} {e} h p s w) of' i a b =
        from-here i a (branches-here c (more h p s w) of')
        (λ d. in_two i m (λ l. wider e (let z = branches-rise w in omega arith) (spans-at s i d l)) (λ l. branches_at c w (branch-next of' h p) i l b))

  bodies-at : {n : ℕ} {firsts : List ℕ} → Bodies rows n firsts → (m : ℕ) → n ≤ m → m < length rows → (e : ℕ) × Located m e
  bodies-at (none e) m a b = absurd (omega arith)
  bodies-at (standing {n} {e} s w) m a b = in_two m e (λ l. (e, spans-at s m a l)) (λ l. bodies-at w m l b)

  mutual
    spans-inside : {n e : ℕ} → Spans rows n e → e ≤ length rows
    spans-inside (variable {n} h) = let z = row_below rows n _ h in omega arith
    spans-inside (number {n} h) = let z = row_below rows n _ h in omega arith
    spans-inside (sum {n} h) = let z = row_below rows n _ h in omega arith
    spans-inside (difference {n} h) = let z = row_below rows n _ h in omega arith
    spans-inside (region h s) = spans-inside s
    spans-inside (start h s) = spans-inside s
    spans-inside (past h s) = spans-inside s
    spans-inside (after h s) = spans-inside s
    spans-inside (construct {n} h) = let z = row_below rows n _ h in omega arith
    spans-inside (bind h s t) = spans-inside t
    spans-inside (test h s t) = spans-inside t
    spans-inside (call {n} h) = let z = row_below rows n _ h in omega arith
    spans-inside (case h b) = branches-inside b

    branches-inside : {n e : ℕ} → Branches rows n e → e ≤ length rows
    branches-inside (last h s) = spans-inside s
    branches-inside (more h p s b) = branches-inside b

  -- a place gives what hangs on its row
  hangs-of : {m e : ℕ} (p : Located m e) (r : Row) → slice_get rows m ≡ Some r → Below m p.end r
  hangs-of {m} p r is = subst (Below m p.end) (one-row (slice_get rows m) p.row r p.is is) p.hangs

  binds-there : (m n : ℕ) → BoundIn rows m n → binds rows m n ≡ true
  binds-there m n b =
      let end : bound_end_at rows m ≡ b.body = ap (λ o. either o 0 bound_end) b.is in
      let below = b.below in
      and_from (ltb m n) (ltb n (bound_end_at rows m)) (lt-ltb m n b.above) (lt-ltb n (bound_end_at rows m) (omega arith))

  not-both : {X : Type 0} (b : Bool) → b ≡ true → b ≡ false → X
  not-both b p q = cc

  -- the row to which a row leads lies within what hangs on it
  lead_low : (m e : ℕ) (r : Row) → Below m e r → m < e → (cond (is_case r) (m + 1) (next_branch r) ≡ 0) ⊎ (cond (is_case r) (m + 1) (next_branch r) < e)
  lead_low m e (row.Case x) h l = inr (branches-rise h)
  lead_low m e (row.Branch form x0 l0 next) h l = elim (cases_eq next 0) [ inl q ↦ inl q | inr d ↦ inr (branches-rise (h (omega arith)).1) ]
  lead_low m e _ h l = inl refl

  module _ (firsts : List ℕ) (stand : Bodies rows 0 firsts) where
    place : (m : ℕ) (r : Row) → slice_get rows m ≡ Some r → (e : ℕ) × Located m e
    place m r is = bodies-at stand m (omega arith) (row_below rows m r is)

    -- a let that binds a row holds it in its bound part
    binder-bound : (m n : ℕ) → Binder rows m n → BoundIn rows m n
    binder-bound m n b =
        let p = place m (row.Let b.x b.kind b.l b.body) b.is in
        record { x = b.x; kind = b.kind; l = b.l; body = b.body; is = b.is; spans = hangs-of p.1 (row.Let b.x b.kind b.l b.body) b.is; above = b.below; below = b.holds }

    taker-at : (n m : ℕ) → taker_of rows n ≡ Some m → TakerAt rows m n
    taker-at n m e =
        let bound = binder-bound m n (taker-binds rows n m e) in
        record {
          bound = bound;
          inner = λ k b. in_two m k
              (λ h. not-both (binds rows k n) (binds-there k n b) (taker-greatest rows n m e k h b.above))
              (λ h. elim (cases_eq k m) [
                | inl q ↦ inl q
                | inr d ↦ inr (let above = bound.above in let below = b.below in record { x = b.x; kind = b.kind; l = b.l; body = b.body; is = b.is; spans = b.spans; above = omega arith; below = omega arith })
              ]);
        }

    taker-one : (n m k : ℕ) → TakerAt rows m n → TakerAt rows k n → k ≡ m
    taker-one n m k a b =
        elim (a.inner k b.bound) [
          | inl q ↦ q
          | inr c ↦ elim (b.inner m a.bound) [
            | inl q ↦ sym q
            | inr d ↦ absurd (let x = c.above in let y = d.above in omega arith)
          ]
        ]

    taker-found : (n m : ℕ) (o : Option ℕ) → taker_of rows n ≡ o → TakerAt rows m n → taker_of rows n ≡ Some m
    taker-found n m None e t = not-both (binds rows m n) (binds-there m n t.bound) (taker-none rows n e m t.bound.above)
    taker-found n m (Some k) e t = e ∙ ap Some (taker-one n m k t (taker-at n k e))

    -- no row in a part leads to where the part ends
    no_lead : {n e : ℕ} → Spans rows n e → (k : ℕ) → n ≤ k → k < e → leads rows k ≢ e
    no_lead {n} {e} s k a b to =
        let p = spans-at s k a b in
        let led : leads rows k ≡ cond (is_case p.row) (k + 1) (next_branch p.row) = ap (λ o. cond (either o false is_case) (k + 1) (either o 0 next_branch)) p.is in
        let inside = p.inside in
        elim (lead_low k p.end p.row p.hangs p.rise) [
          | inl z ↦ absurd (omega arith)
          | inr z ↦ absurd (omega arith)
        ]

    -- the search for a case goes past rows that do not lead to the branch
    skips : (b m : ℕ) → ((k : ℕ) → b < k → k < m → leads rows k ≢ m) → (top : ℕ) → b < top → top ≤ m → case_below rows m top ≡ case_below rows m (suc b)
    skips b m apart zero h l = absurd (omega arith)
    skips b m apart (suc t) h l =
        elim (cases_eq t b) [
          | inl q ↦ ap (λ k. case_below rows m (suc k)) q
          | inr d ↦ lead-other rows m t (omega arith) (apart t (omega arith) (omega arith)) ∙ skips b m apart t (omega arith) (omega arith)
        ]

    -- a branch of a case is found to be one
    branch-case : (c b : ℕ) → BranchOf rows c b → case_of rows b ≡ Some c
    branch-case c _ (branch-first {x} is w) =
        let one : is_case_at rows c ≡ true = ap (λ o. either o false is_case) is in
        ap (case_below rows (c + 1)) (add-one c)
        ∙ lead-here rows (c + 1) c (omega arith) (ap (λ v. cond v (c + 1) (next_at rows c)) one)
        ∙ ap (λ v. cond v (Some c) (case_of rows c)) one
    branch-case c _ (branch-next {b} {m} {form} {x0} {l0} of' is p) =
        let other : is_case_at rows b ≡ false = ap (λ o. either o false is_case) is in
        let to : leads rows b ≡ m = ap (λ o. cond (either o false is_case) (b + 1) (either o 0 next_branch)) is in
        let here = place b (row.Branch form x0 l0 m) is in
        let parts = hangs-of here.1 (row.Branch form x0 l0 m) is p in
        let rise = spans-rise parts.0 in
        skips b m (λ k a l. no_lead parts.0 k (omega arith) l) m (omega arith) (omega arith)
        ∙ lead-here rows m b (omega arith) to
        ∙ ap (λ v. cond v (Some b) (case_of rows b)) other
        ∙ branch-case c b of'

    -- and what is found to be a row's case is the case of that branch
    case-branch : (b top c : ℕ) → top ≤ b → case_below rows b top ≡ Some c → BranchOf rows c b
    case-branch b zero c h e = cc
    case-branch b (suc t) c h e = step (is_case_at rows t) refl (eqb (t + 1) b) refl (eqb (next_at rows t) b) refl e (case-branch t t c (omega arith)) (case-branch b t c (omega arith))
      where
        named-on : eqb (next_at rows t) b ≡ true → BranchOf rows c t → BranchOf rows c b
        named-on y of' =
            let n = names-of-test (slice_get rows t) b (omega arith) (eqb-true (next_at rows t) b y) in
            branch-next of' n.is (omega arith)

        step : (one : Bool) → is_case_at rows t ≡ one → (near : Bool) → eqb (t + 1) b ≡ near → (far : Bool) → eqb (next_at rows t) b ≡ far → cond (one && near) (Some t) (cond far (case_below rows t t) (case_below rows b t)) ≡ Some c → (case_below rows t t ≡ Some c → BranchOf rows c t) → (case_below rows b t ≡ Some c → BranchOf rows c b) → BranchOf rows c b
        step true x true y far z e own down =
            let same : t ≡ c = cc in
            let is = case-of-test (slice_get rows t) x in
            let p = place t (row.Case is.0) is.1 in
            subst (λ k. BranchOf rows k b) same (subst (BranchOf rows t) (eqb-true (t + 1) b y) (branch-first is.1 (hangs-of p.1 (row.Case is.0) is.1)))
        step true x false y true z e own down = named-on z (own e)
        step true x false y false z e own down = down e
        step false x near y true z e own down = named-on z (own e)
        step false x near y false z e own down = down e

    branch-inside : (c b : ℕ) → BranchOf rows c b → b < length rows
    branch-inside c _ (branch-first is w) = let a = branches-rise w in let z = branches-inside w in omega arith
    branch-inside c _ (branch-next {b} {m} {form} {x0} {l0} of' is p) =
        let here = place b (row.Branch form x0 l0 m) is in
        let parts = hangs-of here.1 (row.Branch form x0 l0 m) is p in
        let a = branches-rise parts.1 in
        let z = branches-inside parts.1 in
        omega arith

    -- a link that is looked up only where there is a row
    for-on : (n m : ℕ) (o : Option ℕ) (v : Bool) → ltb n (length rows) ≡ v → cond v o None ≡ Some m → o ≡ Some m
    for-on n m o true e f = f
    for-on n m o false e f = cc

    on-for : (n : ℕ) (o : Option ℕ) → n < length rows → cond (ltb n (length rows)) o None ≡ o
    on-for n o h = ap (λ v. cond v o None) (lt-ltb n (length rows) h)

    module _ (link : ℕ → Option ℕ) where
      pub takers-enclose : ((n : ℕ) → link n ≡ taker_for rows n) → (n m : ℕ) → (link n ≡ Some m → TakerAt rows m n) × (TakerAt rows m n → link n ≡ Some m)
      takers-enclose is n m = (
        λ e. taker-at n m (for-on n m (taker_of rows n) (ltb n (length rows)) refl (sym (is n) ∙ e)),
        λ t.
            let below = t.bound.below in
            let inside = spans-inside t.bound.spans in
            is n ∙ on-for n (taker_of rows n) (omega arith) ∙ taker-found n m (taker_of rows n) refl t,
      )

      pub cases-enclose : ((n : ℕ) → link n ≡ case_for rows n) → (b c : ℕ) → (link b ≡ Some c → BranchOf rows c b) × (BranchOf rows c b → link b ≡ Some c)
      cases-enclose is b c = (
        λ e. case-branch b b c (omega arith) (for-on b c (case_of rows b) (ltb b (length rows)) refl (sym (is b) ∙ e)),
        λ w. is b ∙ on-for b (case_of rows b) (branch-inside c b w) ∙ branch-case c b w,
      )

      pub branches-cased : ((n : ℕ) → link n ≡ case_for rows n) → (b : ℕ) (r : Row) → slice_get rows b ≡ Some r → is_branch r ≡ true → (c : ℕ) × (link b ≡ Some c)
      branches-cased is b r at branch =
          let p = (place b r at).1 in
          let w = p.cased (ap is_branch (one-row (slice_get rows b) p.row r p.is at) ∙ branch) in
          (w.0, (cases-enclose is b w.0).1 w.1)
