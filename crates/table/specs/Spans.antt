-- Rows in descent order, as a relation.
use Rattle.std.specs.Prelude.{◌≡◌, ℕ, ◌+◌, ◌<◌, List, [], ◌∷◌, length, ℤ, Some}
use Rattle.std.specs.List.{slice_get}
use Rattle.table.specs.declared.row.Row.{Row}
use Rattle.table.specs.declared.row.Row.TheVariants as row

-- Spans rows n e: rows n to e − 1 are row n and all that hangs on it, in descent order: the first child of row n is row
-- n + 1, the next starts where the former's rows end, and each row number that a row holds names the child that it is for.
-- Branches rows n e: rows n to e − 1 are branches of one case, with their children.
mutual
  pub data Spans (rows : List Row) : ℕ → ℕ → Type 0 where
    variable : {n x : ℕ} → slice_get rows n ≡ Some (row.Variable x) → Spans rows n (n + 1)
    number : {n : ℕ} {value : ℤ} → slice_get rows n ≡ Some (row.Number value) → Spans rows n (n + 1)
    sum : {n x y : ℕ} → slice_get rows n ≡ Some (row.Sum x y) → Spans rows n (n + 1)
    difference : {n x y : ℕ} → slice_get rows n ≡ Some (row.Difference x y) → Spans rows n (n + 1)
    region : {n e r room : ℕ} → slice_get rows n ≡ Some (row.Region r room) → Spans rows (n + 1) e → Spans rows n e
    start : {n e l r : ℕ} → slice_get rows n ≡ Some (row.Start l r) → Spans rows (n + 1) e → Spans rows n e
    past : {n e l m k : ℕ} → slice_get rows n ≡ Some (row.Past l m k) → Spans rows (n + 1) e → Spans rows n e
    after : {n e l m t : ℕ} → slice_get rows n ≡ Some (row.After l m t) → Spans rows (n + 1) e → Spans rows n e
    construct : {n form l v0 v1 v2 v3 v4 v5 v6 v7 : ℕ} → slice_get rows n ≡ Some (row.Construct form l v0 v1 v2 v3 v4 v5 v6 v7) → Spans rows n (n + 1)
    bind : {n m e x kind l : ℕ} → slice_get rows n ≡ Some (row.Let x kind l m) → Spans rows (n + 1) m → Spans rows m e → Spans rows n e
    test : {n m e x y : ℕ} → slice_get rows n ≡ Some (row.Test x y m) → Spans rows (n + 1) m → Spans rows m e → Spans rows n e
    call : {n f l v0 v1 v2 v3 : ℕ} → slice_get rows n ≡ Some (row.Call f l v0 v1 v2 v3) → Spans rows n (n + 1)
    case : {n e x : ℕ} → slice_get rows n ≡ Some (row.Case x) → Branches rows (n + 1) e → Spans rows n e

  pub data Branches (rows : List Row) : ℕ → ℕ → Type 0 where
    last : {n e form x0 l0 : ℕ} → slice_get rows n ≡ Some (row.Branch form x0 l0 0) → Spans rows (n + 1) e → Branches rows n e
    more : {n m e form x0 l0 : ℕ} → slice_get rows n ≡ Some (row.Branch form x0 l0 m) → 0 < m → Spans rows (n + 1) m → Branches rows m e → Branches rows n e

-- from row n on, the bodies of functions with these first rows stand one behind the other, and nothing behind them
pub data Bodies (rows : List Row) : ℕ → List ℕ → Type 0 where
  none : {n : ℕ} → n ≡ length rows → Bodies rows n []
  body : {n e : ℕ} {firsts : List ℕ} → Spans rows n e → Bodies rows e firsts → Bodies rows n (n ∷ firsts)
