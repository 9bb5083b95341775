-- How a reading of rows goes on, from one row to the next.
use Rattle.std.proofs.Common.{◌≡◌, ℕ, zero, suc, ◌+◌, ◌<◌, ◌≤◌, Bool, true, false, cond, not, ◌&&◌, eqb, List, [], ◌∷◌, ◌++◌, length, drop, Some, None, Ok, Err, Option, Result, sym, refl, ap, ◌∙◌, arith, length-drop, eq-eqb, ne_eqb}
use Rattle.std.specs.Bool.{then_some}
use Rattle.std.specs.List.{slice_get}
use Rattle.std.specs.Option.{MatchOption, option_or}
use Rattle.std.specs.Result.{result_err}
use Rattle.std.proofs.lemmas.List.{at_drop_all}
use Rattle.packed.specs.Forms.{either}
use Rattle.table.specs.declared.row.Row.{Row}
use Rattle.table.specs.declared.row.Row.TheVariants as row
use Rattle.table.specs.declared.order.walk.Walk.{Walk}
use Rattle.table.specs.declared.order.hanging.Hanging.{Hanging}
use Rattle.table.specs.Order.{Due, body, child, later, branch, further, furthers, children, is_branch, stands, misnamed, least, disorder, bodies}
use Rattle.table.specs.Held.{rows_of}
use Rattle.table.specs.Walks.{from, left, behind, hung, Hangs, trailing, stepped, named}
use Rattle.table.proofs.Leasts.{least-assoc}

pub row_at : (rows : List Row) (n : ℕ) (r : Row) → slice_get rows n ≡ Some r → drop n rows ≡ r ∷ drop (n + 1) rows
row_at [] n r e = cc
row_at (x ∷ rows) zero r e = let same : x ≡ r = cc in ap (λ y. y ∷ rows) same
row_at (x ∷ rows) (suc n) r e = row_at rows n r e ∙ ap (λ k. r ∷ drop k (x ∷ rows)) (let k : suc (n + 1) ≡ suc n + 1 = omega arith in k)

pub row-none : (rows : List Row) (n : ℕ) → slice_get rows n ≡ None → drop n rows ≡ []
row-none [] zero e = refl
row-none [] (suc n) e = refl
row-none (x ∷ rows) zero e = cc
row-none (x ∷ rows) (suc n) e = row-none rows n e

pub row_below : (rows : List Row) (n : ℕ) (r : Row) → slice_get rows n ≡ Some r → n < length rows
row_below [] n r e = cc
row_below (x ∷ rows) zero r e = omega arith
row_below (x ∷ rows) (suc n) r e = let h = row_below rows n r e in omega arith

pub row-of-drop : (rows : List Row) (n : ℕ) (r : Row) (rest : List Row) → drop n rows ≡ r ∷ rest → (slice_get rows n ≡ Some r) × (drop (n + 1) rows ≡ rest)
row-of-drop [] zero r rest e = cc
row-of-drop [] (suc n) r rest e = cc
row-of-drop (x ∷ rows) zero r rest e = (let same : x ≡ r = cc in ap Some same, let same : rows ≡ rest = cc in same)
row-of-drop (x ∷ rows) (suc n) r rest e =
    let at = row-of-drop rows n r rest e in
    let k : suc n + 1 ≡ suc (n + 1) = omega arith in
    (at.0, ap (λ m. drop m (x ∷ rows)) k ∙ at.1)

pub none-of-drop : (rows : List Row) (n : ℕ) → drop n rows ≡ [] → slice_get rows n ≡ None
none-of-drop [] n e = refl
none-of-drop (x ∷ rows) zero e = cc
none-of-drop (x ∷ rows) (suc n) e = none-of-drop rows n e

-- what reading answers at a row that is missing, and at one that stands or does not
pub row-off : (rows : List Row) (n : ℕ) (d : Due) (due : List Due) → slice_get rows n ≡ None → disorder (d ∷ due) (drop n rows) n ≡ least (misnamed d n) (Some n)
row-off rows n d due e = ap (λ l. disorder (d ∷ due) l n) (row-none rows n e)

pub row_on : (rows : List Row) (n : ℕ) (d : Due) (due : List Due) (r : Row) (b : Bool) → slice_get rows n ≡ Some r → stands d n r ≡ b → disorder (d ∷ due) (drop n rows) n ≡ least (misnamed d n) (cond b (disorder (children n r ++ due) (drop (n + 1) rows) (n + 1)) (Some n))
row_on rows n d due r b e s =
    ap (λ l. disorder (d ∷ due) l n) (row_at rows n r e)
    ∙ ap (λ t. least (misnamed d n) (cond t (disorder (children n r ++ due) (drop (n + 1) rows) (n + 1)) (Some n))) s

-- the same of what is left, where the row cannot be misnamed
pub from-none : (rows : List Row) (n : ℕ) (lowest : Option ℕ) (d : Due) (due : List Due) → misnamed d n ≡ None → slice_get rows n ≡ None → from rows n lowest (d ∷ due) ≡ least lowest (Some n)
from-none rows n lowest d due m e =
    ap (least lowest) (row-off rows n d due e)
    ∙ ap (λ o. least lowest (least o (Some n))) m

pub from_row : (rows : List Row) (n : ℕ) (lowest : Option ℕ) (d : Due) (due : List Due) (r : Row) (b : Bool) → misnamed d n ≡ None → slice_get rows n ≡ Some r → stands d n r ≡ b → from rows n lowest (d ∷ due) ≡ cond b (from rows (n + 1) lowest (children n r ++ due)) (least lowest (Some n))
from_row rows n lowest d due r b m e s =
    ap (least lowest) (row_on rows n d due r b e s)
    ∙ ap (λ o. least lowest (least o (cond b (disorder (children n r ++ due) (drop (n + 1) rows) (n + 1)) (Some n)))) m
    ∙ split b
  where
    split : (b : Bool) → least lowest (cond b (disorder (children n r ++ due) (drop (n + 1) rows) (n + 1)) (Some n)) ≡ cond b (from rows (n + 1) lowest (children n r ++ due)) (least lowest (Some n))
    split true = refl
    split false = refl

-- what a name is for is due as it is without, once the name is tested
pub later-is : (rows : List Row) (e n h : ℕ) (due : List Due) → disorder (later n h ∷ due) rows e ≡ least (cond (eqb h e) None (Some n)) (disorder (child ∷ due) rows e)
later-is [] e n h due = refl
later-is (r ∷ rows) e n h due = refl

pub further-is : (rows : List Row) (e n h : ℕ) (due : List Due) → disorder (further n h ∷ due) rows e ≡ least (cond (eqb h e) None (Some n)) (disorder (branch ∷ due) rows e)
further-is [] e n h due = refl
further-is (r ∷ rows) e n h due = refl

-- and a body that starts where its function says is due as a child is
pub body_is : (rest : List Row) (n : ℕ) (due : List Due) → disorder (body n ∷ due) rest n ≡ disorder (child ∷ due) rest n
body_is [] n due = refl
body_is (r ∷ rest) n due = ap (λ b. cond (b && not (is_branch r)) (disorder (children n r ++ due) rest (n + 1)) (Some n)) (eq-eqb n n refl)

pub body-here : (w : Walk) (h : ℕ) → w.end ≡ h → (due : List Due) → left w (body h ∷ due) ≡ left w (child ∷ due)
body-here w h e due = ap (λ h. left w (body h ∷ due)) (sym e) ∙ ap (least w.lowest) (body_is (drop w.end (rows_of w.rows)) w.end due)

from-later : (rows : List Row) (e : ℕ) (lowest : Option ℕ) (n h : ℕ) (due : List Due) → from rows e lowest (later n h ∷ due) ≡ from rows e (least lowest (cond (eqb h e) None (Some n))) (child ∷ due)
from-later rows e lowest n h due =
    ap (least lowest) (later-is (drop e rows) e n h due)
    ∙ least-assoc lowest (cond (eqb h e) None (Some n)) (disorder (child ∷ due) (drop e rows) e)

from-further : (rows : List Row) (e : ℕ) (lowest : Option ℕ) (n h : ℕ) (due : List Due) → from rows e lowest (further n h ∷ due) ≡ from rows e (least lowest (cond (eqb h e) None (Some n))) (branch ∷ due)
from-further rows e lowest n h due =
    ap (least lowest) (further-is (drop e rows) e n h due)
    ∙ least-assoc lowest (cond (eqb h e) None (Some n)) (disorder (branch ∷ due) (drop e rows) e)

-- the next row where a child or a branch is due, by what hangs on it
child-goes : (w : Walk) (r : Row) (h : Hanging) → slice_get (rows_of w.rows) w.end ≡ Some r → Hangs w.end r (Some h) → (due : List Due) → left w (child ∷ due) ≡ left (stepped w) (hung w.end h ++ due)
child-goes w r h e hangs due =
    from_row (rows_of w.rows) w.end w.lowest child due r true refl e (ap not hangs.0)
    ∙ ap (λ l. left (stepped w) (l ++ due)) hangs.1

-- what is left where a child is due, by what hangs on the next row, if it is there and no branch
pub child-met : (w : Walk) (o : Option Row) (h : Option Hanging) → o ≡ slice_get (rows_of w.rows) w.end → MatchOption o (h ≡ None) (λ r. (n : ℕ) → Hangs n r h) → (due : List Due) → left w (child ∷ due) ≡ either h (least w.lowest (Some w.end)) (λ g. left (stepped w) (hung w.end g ++ due))
child-met w None h e m due = from-none (rows_of w.rows) w.end w.lowest child due refl (sym e) ∙ ap (λ h. either h (least w.lowest (Some w.end)) (λ g. left (stepped w) (hung w.end g ++ due))) (sym m)
child-met w (Some r) None e m due = from_row (rows_of w.rows) w.end w.lowest child due r false refl (sym e) (ap not (m w.end))
child-met w (Some r) (Some h) e m due = child-goes w r h (sym e) (m w.end) due

-- and where a branch is due, by whether the next row is one
pub branch-off : (w : Walk) (o : Option Row) → o ≡ slice_get (rows_of w.rows) w.end → either o false is_branch ≡ false → (due : List Due) → left w (branch ∷ due) ≡ least w.lowest (Some w.end)
branch-off w None e k due = from-none (rows_of w.rows) w.end w.lowest branch due refl (sym e)
branch-off w (Some r) e k due = from_row (rows_of w.rows) w.end w.lowest branch due r false refl (sym e) k

pub furthers-one : (n h : ℕ) → (h ≡ 0 → ⊥) → furthers n h ≡ further n h ∷ []
furthers-one n h e = ap (λ b. cond b [] (further n h ∷ [])) (ne_eqb h 0 e)

trailing-is : (n h : ℕ) (b : Bool) → eqb h 0 ≡ b → furthers n h ≡ trailing n (then_some (not b) h)
trailing-is n h true e = ap (λ b. cond b [] (further n h ∷ [])) e
trailing-is n h false e = ap (λ b. cond b [] (further n h ∷ [])) e

pub branch-goes : (w : Walk) (form x0 l0 h : ℕ) → slice_get (rows_of w.rows) w.end ≡ Some (row.Branch form x0 l0 h) → (due : List Due) → left w (branch ∷ due) ≡ left (stepped w) (child ∷ (trailing w.end (then_some (not (eqb h 0)) h) ++ due))
branch-goes w form x0 l0 h e due =
    from_row (rows_of w.rows) w.end w.lowest branch due (row.Branch form x0 l0 h) true refl e refl
    ∙ ap (λ l. left (stepped w) (child ∷ (l ++ due))) (trailing-is w.end h (eqb h 0) refl)

-- A row with two children: w is the walk before it, f that behind the first, and s that behind the second, where it is read.
pub children-go : (w f t s : Walk) (h : ℕ) (q : Result (Unit {0}) ℕ)
    → t ≡ named f w.end h
    → ((due : List Due) → left w (child ∷ due) ≡ left (stepped w) (child ∷ later w.end h ∷ due))
    → ((due : List Due) → left (stepped w) (child ∷ due) ≡ left f due)
    → ((due : List Due) → left t (child ∷ due) ≡ behind q (λ _. left s due))
    → (due : List Due) → left w (child ∷ due) ≡ behind q (λ _. left s due)
children-go w f t s h q tested row first second due =
    row due
    ∙ first (later w.end h ∷ due)
    ∙ from-later (rows_of f.rows) f.end f.lowest w.end h due
    ∙ ap (λ w. left w (child ∷ due)) (sym tested)
    ∙ second due

-- and a branch with a branch behind it
pub branches-go : (w f t s : Walk) (h : ℕ) (q : Result (Unit {0}) ℕ)
    → t ≡ named f w.end h
    → ((due : List Due) → left w (branch ∷ due) ≡ left (stepped w) (child ∷ further w.end h ∷ due))
    → ((due : List Due) → left (stepped w) (child ∷ due) ≡ left f due)
    → ((due : List Due) → left t (branch ∷ due) ≡ behind q (λ _. left s due))
    → (due : List Due) → left w (branch ∷ due) ≡ behind q (λ _. left s due)
branches-go w f t s h q tested row first second due =
    row due
    ∙ first (further w.end h ∷ due)
    ∙ from-further (rows_of f.rows) f.end f.lowest w.end h due
    ∙ ap (λ w. left w (branch ∷ due)) (sym tested)
    ∙ second due

-- where nothing is due
pub left-over : (w : Walk) → w.end < length (rows_of w.rows) → left w [] ≡ least w.lowest (Some w.end)
left-over w h = over w.end (drop w.end (rows_of w.rows)) (let l = length-drop w.end (rows_of w.rows) in omega arith)
  where
    over : (n : ℕ) (rest : List Row) → 0 < length rest → least w.lowest (disorder [] rest n) ≡ least w.lowest (Some n)
    over n [] h = absurd (omega arith)
    over n (r ∷ rest) h = refl

-- and no body more
pub bodies-all : (w : Walk) (firsts : List ℕ) (i : ℕ) (o : Option ℕ) → length firsts ≤ i → o ≡ left w (bodies (drop i firsts)) → o ≡ left w []
bodies-all w firsts i o h e = e ∙ at_drop_all (λ l. left w (bodies l)) firsts i h

-- what a reading answers: the row at which it broke off, or the lowest that it found
pub answered : (q : Result (Unit {0}) ℕ) (lowest : Option ℕ) → option_or (result_err q) lowest ≡ behind q (λ _. lowest)
answered (Ok x) lowest = refl
answered (Err n) lowest = refl
