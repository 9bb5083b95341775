-- A row that is out of order is one of the rows, or the one behind them.
use Rattle.std.proofs.Common.{◌≡◌, ℕ, suc, ◌+◌, ◌<◌, ◌≤◌, min, Bool, true, false, cond, eqb, List, [], ◌∷◌, ◌++◌, length, Some, None, Option, refl, arith}
use Rattle.table.specs.declared.row.Row.{Row}
use Rattle.table.specs.declared.row.Row.TheVariants as row
use Rattle.table.specs.Order.{Due, children, stands, misnamed, least, disorder, bodies}
use Rattle.table.specs.Order.Due.{body, child, later, branch, further}

-- rows that are held for what is due lie before it
abbrev Low : ℕ → Due → Type 0
Low n (body h) = Unit {0}
Low n child = Unit {0}
Low n (later m h) = m < n
Low n branch = Unit {0}
Low n (further m h) = m < n

abbrev Lows : ℕ → List Due → Type 0
Lows n [] = Unit {0}
Lows n (d ∷ due) = Low n d × Lows n due

low-more : (n : ℕ) (d : Due) → Low n d → Low (n + 1) d
low-more n (body h) l = tt
low-more n child l = tt
low-more n (later m h) l = omega arith
low-more n branch l = tt
low-more n (further m h) l = omega arith

lows-more : (n : ℕ) (due : List Due) → Lows n due → Lows (n + 1) due
lows-more n [] l = tt
lows-more n (d ∷ due) l = (low-more n d l.0, lows-more n due l.1)

lows-append : (n : ℕ) (ds es : List Due) → Lows n ds → Lows n es → Lows n (ds ++ es)
lows-append n [] es a b = b
lows-append n (d ∷ ds) es a b = (a.0, lows-append n ds es a.1 b)

furthers-low : (n next : ℕ) (v : Bool) → Lows (n + 1) (cond v [] (further n next ∷ []))
furthers-low n next true = tt
furthers-low n next false = (omega arith, tt)

children-low : (n : ℕ) (r : Row) → Lows (n + 1) (children n r)
children-low n (row.Variable x) = tt
children-low n (row.Number value) = tt
children-low n (row.Sum x y) = tt
children-low n (row.Difference x y) = tt
children-low n (row.Region r room) = (tt, tt)
children-low n (row.Start l r) = (tt, tt)
children-low n (row.Past l m k) = (tt, tt)
children-low n (row.After l m t) = (tt, tt)
children-low n (row.Construct form l v0 v1 v2 v3 v4 v5 v6 v7) = tt
children-low n (row.Let x kind l start) = (tt, (omega arith, tt))
children-low n (row.Test x y other) = (tt, (omega arith, tt))
children-low n (row.Call f l v0 v1 v2 v3) = tt
children-low n (row.Case x) = (tt, tt)
children-low n (row.Branch form x0 l0 next) = (tt, furthers-low n next (eqb next 0))

bodies-low : (n : ℕ) (firsts : List ℕ) → Lows n (bodies firsts)
bodies-low n [] = tt
bodies-low n (h ∷ firsts) = (tt, bodies-low n firsts)

named-low : (n m h : ℕ) (v : Bool) (k : ℕ) → m < n → cond v None (Some m) ≡ Some k → k < n
named-low n m h true k l e = absurd (grind arith)
named-low n m h false k l e = let same : m ≡ k = cc in omega arith

misnamed-low : (n : ℕ) (d : Due) (k : ℕ) → Low n d → misnamed d n ≡ Some k → k < n
misnamed-low n (body h) k l e = absurd (grind arith)
misnamed-low n child k l e = absurd (grind arith)
misnamed-low n (later m h) k l e = named-low n m h (eqb h n) k l e
misnamed-low n branch k l e = absurd (grind arith)
misnamed-low n (further m h) k l e = named-low n m h (eqb h n) k l e

least-low : (a b : Option ℕ) (n most : ℕ) → ((k : ℕ) → a ≡ Some k → k ≤ most) → ((k : ℕ) → b ≡ Some k → k ≤ most) → least a b ≡ Some n → n ≤ most
least-low None b n most f g e = g n e
least-low (Some m) None n most f g e = f n e
least-low (Some m) (Some k) n most f g e = let same : min m k ≡ n = cc in let h = f m refl in omega arith

cond-low : (v : Bool) (o : Option ℕ) (m n most : ℕ) → m ≤ most → ((k : ℕ) → o ≡ Some k → k ≤ most) → cond v o (Some m) ≡ Some n → n ≤ most
cond-low true o m n most h f e = f n e
cond-low false o m n most h f e = let same : m ≡ n = cc in omega arith

disorder-low : (rows : List Row) (due : List Due) (n p : ℕ) → Lows n due → disorder due rows n ≡ Some p → p ≤ n + length rows
disorder-low [] [] n p l e = absurd (grind arith)
disorder-low (r ∷ rows) [] n p l e = let same : n ≡ p = cc in omega arith
disorder-low [] (d ∷ due) n p l e =
    least-low (misnamed d n) (Some n) p (n + 0) (λ k f. let h = misnamed-low n d k l.0 f in omega arith) (λ k f. let same : n ≡ k = cc in omega arith) e
disorder-low (r ∷ rows) (d ∷ due) n p l e =
    least-low (misnamed d n) (cond (stands d n r) (disorder (children n r ++ due) rows (n + 1)) (Some n)) p (n + suc (length rows))
    (λ k f. let h = misnamed-low n d k l.0 f in omega arith)
    (λ k f. cond-low (stands d n r) (disorder (children n r ++ due) rows (n + 1)) n k (n + suc (length rows)) (omega arith)
    (λ j g. let h = disorder-low rows (children n r ++ due) (n + 1) j (lows-append (n + 1) (children n r) due (children-low n r) (lows-more n due l.1)) g in omega arith) f)
    e

pub disorder-bound : (firsts : List ℕ) (rows : List Row) (p : ℕ) → disorder (bodies firsts) rows 0 ≡ Some p → p ≤ length rows
disorder-bound firsts rows p e = let h = disorder-low rows (bodies firsts) 0 p (bodies-low 0 firsts) e in omega arith
