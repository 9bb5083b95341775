-- Rows that stand in descent order: the check never meets a row out of order, and the rows that a row names lie further on.
use Rattle.std.proofs.Common.{◌≡◌, ℕ, zero, suc, ◌+◌, ◌<◌, ◌≤◌, ◌⊎◌, List, [], ◌∷◌, map, length, Some, None, Option, sym, refl, ap, ◌∙◌, subst, inl, inr, arith}
use Rattle.std.specs.List.{slice_get}
use Rattle.std.proofs.lemmas.Bool.{cases_eq}
use Rattle.std.proofs.lemmas.Option.{slice_get_within}
use Rattle.packed.specs.declared.fault.Fault.{Fault}
use Rattle.packed.specs.declared.fault.Reason.TheVariants as reason
use Rattle.packed.specs.Faults.{number_of}
use Rattle.table.specs.declared.function.Function.{Function}
use Rattle.table.specs.declared.row.Row.{Row}
use Rattle.table.specs.declared.row.Row.TheVariants as row
use Rattle.table.specs.declared.section.Layout.{Layout}
use Rattle.table.specs.Formed.{Formed}
use Rattle.packed.specs.Faults.{found}
use Rattle.table.specs.Spans.{Spans, Branches, Bodies}
use Rattle.table.specs.Spans.Spans.{variable, number, sum, difference, region, start, past, after, construct, bind, test, call, case}
use Rattle.table.specs.Spans.Branches.{last, more}
use Rattle.table.specs.Spans.Bodies.{none, body as standing}
use Rattle.table.specs.Table.{functions_in, rows_in}
use Rattle.table.proofs.Tabling.{formed-whole}
use Rattle.checker.specs.declared.kind.Kind.{Kind}
use Rattle.checker.specs.declared.context.Context.{Context}
use Rattle.checker.specs.declared.context.Location.{Location}
use Rattle.checker.specs.Conditions.{Program, branch_form}
use Rattle.checker.specs.Rules.{Branch, branch}
use Rattle.checker.specs.First.{Breaks, Breaks.scope_broken, Breaks.kind_broken, Breaks.frontier_broken, Breaks.place_broken, Locates, Fails, Fails.own, Fails.missing, Fails.stray, Fails.in_region, Fails.in_located, Fails.unsettled, Fails.in_bound, Fails.bound_kind, Fails.bound_place, Fails.in_body, Fails.back_body, Fails.in_arm, Fails.in_other, Fails.back_other, Fails.arms_differ, Fails.in_branch, Fails.in_later, Fails.back_branch, FailsBranch, FailsBranch.no_branch, FailsBranch.branch_own, FailsBranch.unknown_form, FailsBranch.in_child, FailsBranch.value_stays, FailsLater, FailsLater.later_branch, FailsLater.later_differs, FailsLater.later_on, FailsLater.later_back, FailsBody, FailsBody.inside, FailsBody.wrong_kind, FailsBody.wrong_place, Broken}
use Rattle.checker.specs.First.Locates.{start as at-start, past as at-past, after as at_after}
use Rattle.checker.specs.Checking.{program_in}
use Rattle.checker.specs.Laws.{RuleNamed, RowNumber, RowNumber.of_let, RowNumber.of_test, RowNumber.of_branch}
use Rattle.checker.proofs.Inversions.{some-none}

-- one place has one row
pub one-row : (o : Option Row) (q r : Row) → o ≡ Some q → o ≡ Some r → q ≡ r
one-row o q r a b = cc

module _ (rows : List Row) where
  mutual
    pub spans-rise : {n e : ℕ} → Spans rows n e → n < e
    spans-rise (variable h) = omega arith
    spans-rise (number h) = omega arith
    spans-rise (sum h) = omega arith
    spans-rise (difference h) = omega arith
    spans-rise (region h s) = let z = spans-rise s in omega arith
    spans-rise (start h s) = let z = spans-rise s in omega arith
    spans-rise (past h s) = let z = spans-rise s in omega arith
    spans-rise (after h s) = let z = spans-rise s in omega arith
    spans-rise (construct h) = omega arith
    spans-rise (bind h s t) = let y = spans-rise s in let z = spans-rise t in omega arith
    spans-rise (test h s t) = let y = spans-rise s in let z = spans-rise t in omega arith
    spans-rise (call h) = omega arith
    spans-rise (case h b) = let z = branches-rise b in omega arith

    pub branches-rise : {n e : ℕ} → Branches rows n e → n < e
    branches-rise (last h s) = let z = spans-rise s in omega arith
    branches-rise (more h p s b) = let y = spans-rise s in let z = branches-rise b in omega arith

  -- what hangs on row n, where rows n to e − 1 are this row and what hangs on it
  abbrev Hung : ℕ → ℕ → Row → Type 0
  Hung n e (row.Variable x) = Unit {0}
  Hung n e (row.Number value) = Unit {0}
  Hung n e (row.Sum x y) = Unit {0}
  Hung n e (row.Difference x y) = Unit {0}
  Hung n e (row.Region r room) = Spans rows (n + 1) e
  Hung n e (row.Start l r) = Spans rows (n + 1) e
  Hung n e (row.Past l m k) = Spans rows (n + 1) e
  Hung n e (row.After l m t) = Spans rows (n + 1) e
  Hung n e (row.Construct form l v0 v1 v2 v3 v4 v5 v6 v7) = Unit {0}
  Hung n e (row.Let x kind l m) = Spans rows (n + 1) m × Spans rows m e
  Hung n e (row.Test x y m) = Spans rows (n + 1) m × Spans rows m e
  Hung n e (row.Call f l v0 v1 v2 v3) = Unit {0}
  Hung n e (row.Case x) = Branches rows (n + 1) e
  Hung n e (row.Branch form x l m) = ⊥

  record Here (n e : ℕ) : Type 0 where
    row : Row
    is : slice_get rows n ≡ Some row
    hangs : Hung n e row

  here : {n e : ℕ} → Spans rows n e → Here n e
  here (variable h) = record { row = _; is = h; hangs = tt }
  here (number h) = record { row = _; is = h; hangs = tt }
  here (sum h) = record { row = _; is = h; hangs = tt }
  here (difference h) = record { row = _; is = h; hangs = tt }
  here (region h s) = record { row = _; is = h; hangs = s }
  here (start h s) = record { row = _; is = h; hangs = s }
  here (past h s) = record { row = _; is = h; hangs = s }
  here (after h s) = record { row = _; is = h; hangs = s }
  here (construct h) = record { row = _; is = h; hangs = tt }
  here (bind h s t) = record { row = _; is = h; hangs = (s, t) }
  here (test h s t) = record { row = _; is = h; hangs = (s, t) }
  here (call h) = record { row = _; is = h; hangs = tt }
  here (case h b) = record { row = _; is = h; hangs = b }

  hung : {n e : ℕ} → Spans rows n e → (r : Row) → slice_get rows n ≡ Some r → Hung n e r
  hung {n} {e} s r is = let h = here s in subst (Hung n e) (one-row (slice_get rows n) h.row r h.is is) h.hangs

  -- a branch, its child, and the branches behind it
  record Standing (n e : ℕ) : Type 0 where
    form : ℕ
    x : ℕ
    l : ℕ
    next : ℕ
    is : slice_get rows n ≡ Some (row.Branch form x l next)
    ends : ℕ
    child : Spans rows (n + 1) ends
    behind : 0 < next → (ends ≡ next) × Branches rows next e

  stands : {n e : ℕ} → Branches rows n e → Standing n e
  stands (last {e = e} h s) = record { form = _; x = _; l = _; next = 0; is = h; ends = e; child = s; behind = λ p. absurd (omega arith) }
  stands (more {m = m} h p s b) = record { form = _; x = _; l = _; next = m; is = h; ends = m; child = s; behind = λ z. (refl, b) }

  branch-next : {n e : ℕ} → Branches rows n e → (form x l m : ℕ) → slice_get rows n ≡ Some (row.Branch form x l m) → 0 < m → (n + 1 < m) × Branches rows m e
  branch-next {n} {e} b form x l m is p =
      let s = stands b in
      let q = s.is in
      let same : s.next ≡ m = cc in
      let t = s.behind (omega arith) in
      let rise = spans-rise s.child in
      let z = t.0 in
      (omega arith, subst (λ k. Branches rows k e) same t.1)

  -- The rows that a row names lie further on.
  pub let-further : {n e : ℕ} (x t l m : ℕ) → Spans rows n e → slice_get rows n ≡ Some (row.Let x t l m) → n < m
  let-further x t l m s is = let z = spans-rise (hung s (row.Let x t l m) is).0 in omega arith

  pub test-further : {n e : ℕ} (x y m : ℕ) → Spans rows n e → slice_get rows n ≡ Some (row.Test x y m) → n < m
  test-further x y m s is = let z = spans-rise (hung s (row.Test x y m) is).0 in omega arith

  pub branch-further : {n e : ℕ} (form x l m : ℕ) → Branches rows n e → slice_get rows n ≡ Some (row.Branch form x l m) → 0 < m → n < m
  branch-further form x l m b is p = let z = (branch-next b form x l m is p).0 in omega arith

  here-further : {n e : ℕ} → Spans rows n e → (r : Row) (m : ℕ) → slice_get rows n ≡ Some r → RowNumber r m → n < m
  here-further s _ m i (of_let {x} {t} {l}) = let-further x t l m s i
  here-further s _ m i (of_test {x} {y}) = test-further x y m s i
  here-further s _ m i (of_branch {form} {x} {l} p) = absurd (hung s (row.Branch form x l m) i)

  branch-here-further : {n e : ℕ} → Branches rows n e → (r : Row) (m : ℕ) → slice_get rows n ≡ Some r → RowNumber r m → n < m
  branch-here-further b _ m i (of_let {x} {t} {l}) = let s = stands b in let q = s.is in cc
  branch-here-further b _ m i (of_test {x} {y}) = let s = stands b in let q = s.is in cc
  branch-here-further b _ m i (of_branch {form} {x} {l} p) = branch-further form x l m b i p

  -- the row at which a part starts, or one behind it
  at-or-behind : {X : Type 0} (n i : ℕ) → n ≤ i → (n ≡ i → X) → (n + 1 ≤ i → X) → X
  at-or-behind n i h a b = elim (cases_eq n i) [ inl q ↦ a q | inr d ↦ b (omega arith) ]

  -- the former of two parts, or the latter
  in_two : {X : Type 0} (i m : ℕ) → (i < m → X) → (m ≤ i → X) → X
  in_two i m a b = elim (before i m) [ inl h ↦ a h | inr h ↦ b h ]
    where
      before : (i m : ℕ) → (i < m) ⊎ (m ≤ i)
      before i zero = inr (omega arith)
      before zero (suc m) = inl (omega arith)
      before (suc i) (suc m) = elim (before i m) [ inl h ↦ inl (omega arith) | inr h ↦ inr (omega arith) ]

  module _ (i m : ℕ) (r : Row) (is : slice_get rows i ≡ Some r) (held : RowNumber r m) where
    starts : {n e : ℕ} → Spans rows n e → n ≡ i → i < m
    starts {n} s q = subst (λ k. k < m) q (here-further s r m (subst (λ k. slice_get rows k ≡ Some r) (sym q) is) held)

    branch-starts : {n e : ℕ} → Branches rows n e → n ≡ i → i < m
    branch-starts {n} b q = subst (λ k. k < m) q (branch-here-further b r m (subst (λ k. slice_get rows k ≡ Some r) (sym q) is) held)

    leaf : {n : ℕ} → Spans rows n (n + 1) → n ≤ i → i < n + 1 → i < m
    leaf {n} s a b = starts s (omega arith)

    mutual
      spans-further : {n e : ℕ} → Spans rows n e → n ≤ i → i < e → i < m
      spans-further (variable h) a b = leaf (variable h) a b
      spans-further (number h) a b = leaf (number h) a b
      spans-further (sum h) a b = leaf (sum h) a b
      spans-further (difference h) a b = leaf (difference h) a b
      spans-further (region {n} h s) a b = at-or-behind n i a (starts (region h s)) (λ d. spans-further s d b)
      spans-further (start {n} h s) a b = at-or-behind n i a (starts (start h s)) (λ d. spans-further s d b)
      spans-further (past {n} h s) a b = at-or-behind n i a (starts (past h s)) (λ d. spans-further s d b)
      spans-further (after {n} h s) a b = at-or-behind n i a (starts (after h s)) (λ d. spans-further s d b)
      spans-further (construct h) a b = leaf (construct h) a b
      spans-further (bind {n} {m = j} h s t) a b = at-or-behind n i a (starts (bind h s t)) (λ d. in_two i j (λ c. spans-further s d c) (λ c. spans-further t c b))
      spans-further (test {n} {m = j} h s t) a b = at-or-behind n i a (starts (test h s t)) (λ d. in_two i j (λ c. spans-further s d c) (λ c. spans-further t c b))
      spans-further (call h) a b = leaf (call h) a b
      spans-further (case {n} h w) a b = at-or-behind n i a (starts (case h w)) (λ d. branches-further w d b)

      branches-further : {n e : ℕ} → Branches rows n e → n ≤ i → i < e → i < m
      branches-further (last {n} h s) a b = at-or-behind n i a (branch-starts (last h s)) (λ d. spans-further s d b)
      branches-further (more {n} {m = j} h p s w) a b = at-or-behind n i a (branch-starts (more h p s w)) (λ d. in_two i j (λ c. spans-further s d c) (λ c. branches-further w c b))

    bodies-further : {n : ℕ} {firsts : List ℕ} → Bodies rows n firsts → n ≤ i → i < m
    bodies-further (none h) a = absurd (let w = slice_get_within rows i _ is in omega arith)
    bodies-further (standing {e = e} s b) a = in_two i e (λ c. spans-further s a c) (λ c. bodies-further b c)

  -- a function's body
  body_at : {n : ℕ} {firsts : List ℕ} → Bodies rows n firsts → (i p : ℕ) → slice_get firsts i ≡ Some p → (e : ℕ) × Spans rows p e
  body_at (none h) i p e = absurd (some-none (sym e))
  body_at (standing {n} {e} s b) zero p h = let same : n ≡ p = cc in (e, subst (λ k. Spans rows k e) same s)
  body_at (standing s b) (suc i) p h = body_at b i p h

first-at : (fs : List Function) (i : ℕ) (f : Function) → slice_get fs i ≡ Some f → slice_get (map (λ g. g.first) fs) i ≡ Some f.first
first-at [] i f e = absurd (some-none (sym e))
first-at (g ∷ fs) zero f e = let same : g ≡ f = cc in ap (λ (h : Function). Some h.first) same
first-at (g ∷ fs) (suc i) f e = first-at fs i f e

-- a fault of the typing rules, at one of so many rows
record Ruled (count : ℕ) (f : Fault) : Type 0 where
  layer : f.layer ≡ 3
  low : 31 ≤ number_of f.reason
  high : number_of f.reason ≤ 36
  place : f.place < count

module _ (P : Program) where
  abbrev Fine : Fault → Type 0
  Fine f = Ruled (length P.rows) f

  at-scope : (n : ℕ) → n < length P.rows → Fine (found reason.Scope 3 n)
  at-scope n h = record { layer = refl; low = omega arith; high = omega arith; place = h }

  at-kind : (n : ℕ) → n < length P.rows → Fine (found reason.Kind 3 n)
  at-kind n h = record { layer = refl; low = omega arith; high = omega arith; place = h }

  at-rule : (n : ℕ) → n < length P.rows → Fine (found reason.LocationRule 3 n)
  at-rule n h = record { layer = refl; low = omega arith; high = omega arith; place = h }

  at_place : (n : ℕ) → n < length P.rows → Fine (found reason.Unwritten 3 n)
  at_place n h = record { layer = refl; low = omega arith; high = omega arith; place = h }

  at-child : (n : ℕ) → n < length P.rows → Fine (found reason.ChildLeft 3 n)
  at-child n h = record { layer = refl; low = omega arith; high = omega arith; place = h }

  at-arms : (n : ℕ) → n < length P.rows → Fine (found reason.ArmsDiffer 3 n)
  at-arms n h = record { layer = refl; low = omega arith; high = omega arith; place = h }

  breaks-fine : {c : Context} {n : ℕ} {r : Row} {f : Fault} → slice_get P.rows n ≡ Some r → Breaks P c n r f → Fine f
  breaks-fine {n = n} i (scope_broken a) = at-scope n (slice_get_within P.rows n _ i)
  breaks-fine {n = n} i (kind_broken a b) = at-kind n (slice_get_within P.rows n _ i)
  breaks-fine {n = n} i (frontier_broken a b g) = at-rule n (slice_get_within P.rows n _ i)
  breaks-fine {n = n} i (place_broken a b g h) = at_place n (slice_get_within P.rows n _ i)

  located-child : {c : Context} {n e l : ℕ} {r : Row} {p : Location} → Locates c r l p → Spans P.rows n e → slice_get P.rows n ≡ Some r → Spans P.rows (n + 1) e
  located-child (at-start {l} {r}) s i = hung P.rows s (row.Start l r) i
  located-child (at-past {l} {m} {k}) s i = hung P.rows s (row.Past l m k) i
  located-child (at_after {l} {m} {t}) s i = hung P.rows s (row.After l m t) i

  -- the row of a typed branch, and the branches behind it
  typed-next : {c d : Context} {r : Option ℕ} {n m e : ℕ} {k : Kind} → Branch P c r n k d m → Branches P.rows n e → 0 < m → (n + 1 < m) × Branches P.rows m e
  typed-next {m = m} (branch {form = form} {x = x} {l = l} i a h t s) b p = branch-next P.rows b form x l m i p

  no_row : {X : Type 0} {n e : ℕ} → Spans P.rows n e → slice_get P.rows n ≡ None → X
  no_row {n = n} s i = let h = here P.rows s in let q = h.is in cc

  no_stray : {X : Type 0} {n e : ℕ} (form x l m : ℕ) → Spans P.rows n e → slice_get P.rows n ≡ Some (row.Branch form x l m) → X
  no_stray form x l m s i = absurd (hung P.rows s (row.Branch form x l m) i)

  no_gap : {X : Type 0} {n e : ℕ} → Branches P.rows n e → branch_form (slice_get P.rows n) ≡ None → X
  no_gap b i = absurd (let s = stands P.rows b in some-none (sym (ap branch_form s.is) ∙ i))

  branch-child : {n e : ℕ} → Branches P.rows n e → (f : ℕ) × Spans P.rows (n + 1) f
  branch-child b = let s = stands P.rows b in (s.ends, s.child)

  no-back : {X : Type 0} {n m : ℕ} → n < m → m ≤ n → X
  no-back p q = absurd (omega arith)

  mutual
    fails-fine : {c : Context} {n e : ℕ} {f : Fault} → Fails P c n f → Spans P.rows n e → Fine f
    fails-fine (own i b) s = breaks-fine i b
    fails-fine (missing i) s = no_row s i
    fails-fine (stray {form = form} {x = x} {l = l} {m = m} i a) s = no_stray form x l m s i
    fails-fine (in_region {r = r} {room = room} i a t) s = fails-fine t (hung P.rows s (row.Region r room) i)
    fails-fine (in_located i w a t) s = fails-fine t (located-child w s i)
    fails-fine (unsettled {n = n} i w a t h) s = at-child n (slice_get_within P.rows n _ i)
    fails-fine (in_bound {x = x} {t = t} {l = l} {m = m} i a u) s = fails-fine u (hung P.rows s (row.Let x t l m) i).0
    fails-fine (bound_kind {n = n} i a t h) s = at-kind n (slice_get_within P.rows n _ i)
    fails-fine (bound_place {n = n} i a t h g) s = at_place n (slice_get_within P.rows n _ i)
    fails-fine (in_body {x = x} {t = t} {l = l} {m = m} i a u lt v) s = fails-fine v (hung P.rows s (row.Let x t l m) i).1
    fails-fine (back_body {x = x} {t = t} {l = l} {m = m} i a u le) s = no-back (let-further P.rows x t l m s i) le
    fails-fine (in_arm {x = x} {y = y} {m = m} i a u) s = fails-fine u (hung P.rows s (row.Test x y m) i).0
    fails-fine (in_other {x = x} {y = y} {m = m} i a u lt v) s = fails-fine v (hung P.rows s (row.Test x y m) i).1
    fails-fine (back_other {x = x} {y = y} {m = m} i a u le) s = no-back (test-further P.rows x y m s i) le
    fails-fine (arms_differ {n = n} i a t lt u h) s = at-arms n (slice_get_within P.rows n _ i)
    fails-fine (in_branch {x = x} i a h t) s = branch-fine t (hung P.rows s (row.Case x) i)
    fails-fine (in_later {n = n} {x = x} i a h b lt t) s = later-fine t (slice_get_within P.rows n _ i) (typed-next b (hung P.rows s (row.Case x) i) (omega arith)).1
    fails-fine (back_branch {x = x} i a h b p le) s = no-back (let z = (typed-next b (hung P.rows s (row.Case x) i) p).0 in omega arith) le

    branch-fine : {c : Context} {r : Option ℕ} {n e : ℕ} {f : Fault} → FailsBranch P c r n f → Branches P.rows n e → Fine f
    branch-fine (no_branch i) b = no_gap b i
    branch-fine (branch_own i h) b = breaks-fine i h
    branch-fine (unknown_form {n = n} i a h) b = at-kind n (slice_get_within P.rows n _ i)
    branch-fine (in_child i a h t) b = fails-fine t (branch-child b).1
    branch-fine (value_stays {n = n} i a h t g) b = at-child n (slice_get_within P.rows n _ i)

    later-fine : {c d : Context} {r : Option ℕ} {n b e : ℕ} {k : Kind} {f : Fault} → FailsLater P c r n k d b f → n < length P.rows → Branches P.rows b e → Fine f
    later-fine (later_branch t) h s = branch-fine t s
    later-fine (later_differs {n = n} b g) h s = at-arms n h
    later-fine (later_on b lt t) h s = later-fine t h (typed-next b s (omega arith)).1
    later-fine (later_back b p le) h s = no-back (let z = (typed-next b s p).0 in omega arith) le

  body-fine : {e : ℕ} {f : Function} {x : Fault} → FailsBody P f x → Spans P.rows f.first e → Fine x
  body-fine (inside t) s = fails-fine t s
  body-fine {f = f} (wrong_kind t h) s = let w = here P.rows s in at-kind f.first (slice_get_within P.rows f.first _ w.is)
  body-fine {f = f} (wrong_place t h g) s = let w = here P.rows s in at_place f.first (slice_get_within P.rows f.first _ w.is)

-- In a table, the fault of the typing check is one of the typing rules', never one of rows out of order.
pub rule-named : (bs : List ℕ) (l : Layout) → Formed bs l → (f : Fault) → Broken (program_in bs l) f → RuleNamed bs l f
rule-named bs l formed f broken =
    let b = body_at (rows_in bs l) formed.order broken.number broken.function.first (first-at (functions_in bs l) broken.number broken.function broken.here) in
    let fine = body-fine (program_in bs l) broken.first b.1 in
    record { layer = fine.layer; low = fine.low; high = fine.high; place = subst (λ n. f.place < n) (formed-whole bs l formed) fine.place }

-- In a table, each row number that a row holds is one of a row further on.
pub further-on : (bs : List ℕ) (l : Layout) → Formed bs l → (n m : ℕ) (r : Row) → slice_get (rows_in bs l) n ≡ Some r → RowNumber r m → n < m
further-on bs l formed n m r is held = bodies-further (rows_in bs l) n m r is held formed.order (omega arith)
