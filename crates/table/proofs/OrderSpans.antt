-- No row is out of order exactly where the bodies stand in descent order.
use Rattle.std.proofs.Common.{◌≡◌, ℕ, ◌+◌, ◌<◌, ◌≤◌, Bool, true, false, cond, not, ◌&&◌, eqb, List, [], ◌∷◌, ◌++◌, length, drop, Some, None, Option, sym, refl, ap, ◌∙◌, subst, arith, length-drop, eq-eqb, eqb-true}
use borrow.Author.Tests.{eqb_apart, not-true}
use Rattle.std.specs.List.{slice_get}
use Rattle.std.proofs.lemmas.List.{drop_all}
use Rattle.table.specs.declared.row.Row.{Row}
use Rattle.table.specs.declared.row.Row.TheVariants as row
use Rattle.table.specs.Order.{Due, body, child, later, branch, further, furthers, children, is_branch, stands, misnamed, least, disorder, bodies}
use Rattle.table.specs.Spans.{Spans, Branches, Bodies}
use Rattle.table.specs.Spans.Spans.{variable, number, sum, difference, region, start, past, after, construct, bind, test, call, case}
use Rattle.table.specs.Spans.Branches.{last, more}
use Rattle.table.specs.Spans.Bodies.{none, body as standing}
use Rattle.table.proofs.Leasts.{least-none-left, least-none-right}
use Rattle.table.proofs.Walking.{row_below, row-of-drop, body_is, from_row, later-is, further-is, furthers-one}

no_way : {X : Type 0} → false ≡ true → X
no_way e = cc

and-true : (a b : Bool) → (a && b) ≡ true → (a ≡ true) × (b ≡ true)
and-true true b e = (refl, e)
and-true false b e = no_way e

-- a name for row n that is no misnaming
named_here : (b : Bool) (m n h : ℕ) → eqb h n ≡ b → cond {A = Option ℕ} b None (Some m) ≡ None → h ≡ n
named_here true m n h e o = eqb-true h n e
named_here false m n h e o = cc

cond-none : (b : Bool) (o : Option ℕ) (n : ℕ) → cond b o (Some n) ≡ None → (b ≡ true) × (o ≡ None)
cond-none true o n e = (refl, e)
cond-none false o n e = cc

-- Bodies that stand are read to the end.
module _ (rows : List Row) where
  -- what reading answers from row n on
  abbrev read : List Due → ℕ → Option ℕ
  read due n = disorder due (drop n rows) n

  child-on : (n : ℕ) (r : Row) (due : List Due) → slice_get rows n ≡ Some r → is_branch r ≡ false → read (child ∷ due) n ≡ read (children n r ++ due) (n + 1)
  child-on n r due e k = from_row rows n None child due r true refl e (ap not k)

  branch-on : (n : ℕ) (r : Row) (due : List Due) → slice_get rows n ≡ Some r → is_branch r ≡ true → read (branch ∷ due) n ≡ read (children n r ++ due) (n + 1)
  branch-on n r due e k = from_row rows n None branch due r true refl e k

  later-here : (m n : ℕ) (due : List Due) → read (later m n ∷ due) n ≡ read (child ∷ due) n
  later-here m n due = later-is (drop n rows) n m n due ∙ ap (λ b. least (cond b None (Some m)) (read (child ∷ due) n)) (eq-eqb n n refl)

  further-here : (m n : ℕ) (due : List Due) → 0 < n → read (furthers m n ++ due) n ≡ read (branch ∷ due) n
  further-here m n due h =
      ap (λ l. read (l ++ due) n) (furthers-one m n (λ z. omega arith))
      ∙ further-is (drop n rows) n m n due
      ∙ ap (λ b. least (cond b None (Some m)) (read (branch ∷ due) n)) (eq-eqb n n refl)

  mutual
    spans_on : {n e : ℕ} → Spans rows n e → (due : List Due) → read (child ∷ due) n ≡ read due e
    spans_on (variable {n} {x} here) due = child-on n _ due here refl
    spans_on (number {n} here) due = child-on n _ due here refl
    spans_on (sum {n} here) due = child-on n _ due here refl
    spans_on (difference {n} here) due = child-on n _ due here refl
    spans_on (region {n} here s) due = child-on n _ due here refl ∙ spans_on s due
    spans_on (start {n} here s) due = child-on n _ due here refl ∙ spans_on s due
    spans_on (past {n} here s) due = child-on n _ due here refl ∙ spans_on s due
    spans_on (after {n} here s) due = child-on n _ due here refl ∙ spans_on s due
    spans_on (construct {n} here) due = child-on n _ due here refl
    spans_on (bind {n} {m} here s t) due = child-on n _ due here refl ∙ spans_on s (later n m ∷ due) ∙ later-here n m due ∙ spans_on t due
    spans_on (test {n} {m} here s t) due = child-on n _ due here refl ∙ spans_on s (later n m ∷ due) ∙ later-here n m due ∙ spans_on t due
    spans_on (call {n} here) due = child-on n _ due here refl
    spans_on (case {n} here b) due = child-on n _ due here refl ∙ branches-on b due

    branches-on : {n e : ℕ} → Branches rows n e → (due : List Due) → read (branch ∷ due) n ≡ read due e
    branches-on (last {n} here s) due = branch-on n _ due here refl ∙ spans_on s due
    branches-on (more {n} {m} here h s b) due = branch-on n _ due here refl ∙ spans_on s (furthers n m ++ due) ∙ further-here n m due h ∙ branches-on b due

  pub bodies-on : {n : ℕ} {firsts : List ℕ} → Bodies rows n firsts → disorder (bodies firsts) (drop n rows) n ≡ None
  bodies-on (none {n} e) = ap (λ l. disorder [] l n) (drop_all n rows (omega arith))
  bodies-on (standing {n} {e} {firsts} s b) = body_is (drop n rows) n (bodies firsts) ∙ spans_on s (bodies firsts) ∙ bodies-on b

  -- What is read to the end stands: rows n to e − 1 are what is due, and so on to the last row.
  abbrev Placed : Due → ℕ → ℕ → Type 0
  Placed (body h) n e = (h ≡ n) × Spans rows n e
  Placed child n e = Spans rows n e
  Placed (later m h) n e = (h ≡ n) × Spans rows n e
  Placed branch n e = Branches rows n e
  Placed (further m h) n e = (h ≡ n) × Branches rows n e

  abbrev Filled : List Due → ℕ → Type 0
  Filled [] n = n ≡ length rows
  Filled (d ∷ due) n = (e : ℕ) × Placed d n e × Filled due e

  -- two children in a row, where the second starts as named
  joined : (n h : ℕ) (due : List Due) → ((m e : ℕ) → h ≡ m → Spans rows (n + 1) m → Spans rows m e → Spans rows n e) → Filled (child ∷ later n h ∷ due) (n + 1) → (e : ℕ) × Spans rows n e × Filled due e
  joined n h due make f = (f.2.0, make f.0 f.2.0 f.2.1.0 f.1 f.2.1.1, f.2.2)

  -- a row and what hangs on it
  child-filled : (n : ℕ) (r : Row) (due : List Due) → slice_get rows n ≡ Some r → is_branch r ≡ false → Filled (children n r ++ due) (n + 1) → (e : ℕ) × Spans rows n e × Filled due e
  child-filled n (row.Variable x) due here k f = (n + 1, variable here, f)
  child-filled n (row.Number value) due here k f = (n + 1, number here, f)
  child-filled n (row.Sum x y) due here k f = (n + 1, sum here, f)
  child-filled n (row.Difference x y) due here k f = (n + 1, difference here, f)
  child-filled n (row.Region r room) due here k f = (f.0, region here f.1, f.2)
  child-filled n (row.Start l r) due here k f = (f.0, start here f.1, f.2)
  child-filled n (row.Past l m k') due here k f = (f.0, past here f.1, f.2)
  child-filled n (row.After l m t) due here k f = (f.0, after here f.1, f.2)
  child-filled n (row.Construct form l v0 v1 v2 v3 v4 v5 v6 v7) due here k f = (n + 1, construct here, f)
  child-filled n (row.Let x kind l h) due here k f = joined n h due (λ m e same s t. bind (here ∙ ap (λ m. Some (row.Let x kind l m)) same) s t) f
  child-filled n (row.Test x y h) due here k f = joined n h due (λ m e same s t. test (here ∙ ap (λ m. Some (row.Test x y m)) same) s t) f
  child-filled n (row.Call g l v0 v1 v2 v3) due here k f = (n + 1, call here, f)
  child-filled n (row.Case x) due here k f = (f.0, case here f.1, f.2)
  child-filled n (row.Branch form x0 l0 h) due here k f = no_way (sym k)

  branch-filled : (n : ℕ) (r : Row) (due : List Due) → slice_get rows n ≡ Some r → is_branch r ≡ true → Filled (children n r ++ due) (n + 1) → (e : ℕ) × Branches rows n e × Filled due e
  branch-filled n (row.Branch form x0 l0 h) due here k f = split (eqb h 0) refl f
    where
      split : (b : Bool) → eqb h 0 ≡ b → Filled (child ∷ (cond b [] (further n h ∷ []) ++ due)) (n + 1) → (e : ℕ) × Branches rows n e × Filled due e
      split true zero-h f = (f.0, last (here ∙ ap (λ m. Some (row.Branch form x0 l0 m)) (eqb-true h 0 zero-h)) f.1, f.2)
      split false some-h f =
          let same = f.2.1.0 in
          let positive = eqb_apart h 0 some-h in
          (f.2.0, more (here ∙ ap (λ m. Some (row.Branch form x0 l0 m)) same) (omega arith) f.1 f.2.1.1, f.2.2)
  branch-filled n _ due here k f = no_way k

  filled_on : (d : Due) (n : ℕ) (r : Row) (due : List Due) → slice_get rows n ≡ Some r → misnamed d n ≡ None → stands d n r ≡ true → Filled (children n r ++ due) (n + 1) → Filled (d ∷ due) n
  filled_on (body h) n r due here m s f =
      let s' = and-true (eqb h n) (not (is_branch r)) s in
      let g = child-filled n r due here (not-true (is_branch r) s'.1) f in
      (g.0, (eqb-true h n s'.0, g.1), g.2)
  filled_on child n r due here m s f = child-filled n r due here (not-true (is_branch r) s) f
  filled_on (later l h) n r due here m s f =
      let g = child-filled n r due here (not-true (is_branch r) s) f in
      (g.0, (named_here (eqb h n) l n h refl m, g.1), g.2)
  filled_on branch n r due here m s f = branch-filled n r due here s f
  filled_on (further l h) n r due here m s f =
      let g = branch-filled n r due here s f in
      (g.0, (named_here (eqb h n) l n h refl m, g.1), g.2)

  filled : (due : List Due) (rest : List Row) (n : ℕ) → drop n rows ≡ rest → n ≤ length rows → disorder due rest n ≡ None → Filled due n
  filled [] [] n e h o = let l = length-drop n rows in let z = ap length e in omega arith
  filled [] (r ∷ rest) n e h o = cc
  filled (d ∷ due) [] n e h o = absurd (let q = least-none-right (misnamed d n) (Some n) o in let z : ◌≡◌ {A = ℕ} 0 1 = cc in omega arith)
  filled (d ∷ due) (r ∷ rest) n e h o =
      let at = row-of-drop rows n r rest e in
      let b = least-none-right (misnamed d n) (cond (stands d n r) (disorder (children n r ++ due) rest (n + 1)) (Some n)) o in
      let s = cond-none (stands d n r) (disorder (children n r ++ due) rest (n + 1)) n b in
      filled_on d n r due at.0 (least-none-left (misnamed d n) (cond (stands d n r) (disorder (children n r ++ due) rest (n + 1)) (Some n)) o) s.0 (filled (children n r ++ due) rest (n + 1) at.1 (let below = row_below rows n r at.0 in omega arith) s.1)

  filled-bodies : (firsts : List ℕ) (n : ℕ) → Filled (bodies firsts) n → Bodies rows n firsts
  filled-bodies [] n f = none f
  filled-bodies (h ∷ firsts) n f = subst (λ k. Bodies rows n (k ∷ firsts)) (sym f.1.0) (standing f.1.1 (filled-bodies firsts f.0 f.2))

  pub bodies-stand : (firsts : List ℕ) → disorder (bodies firsts) rows 0 ≡ None → Bodies rows 0 firsts
  bodies-stand firsts o = filled-bodies firsts 0 (filled (bodies firsts) rows 0 refl (omega arith) o)

  pub orderly : (firsts : List ℕ) (o : Option ℕ) → o ≡ disorder (bodies firsts) rows 0 → (o ≡ None → Bodies rows 0 firsts) × (Bodies rows 0 firsts → o ≡ None)
  orderly firsts o e = (λ z. bodies-stand firsts (sym e ∙ z), λ b. e ∙ bodies-on b)
