-- What encloses a row, by the spans of rows: the lets in whose bound part it lies, and the case of a branch.
use Rattle.std.specs.Prelude.{◌≡◌, ℕ, ◌+◌, ◌<◌, ◌⊎◌, List, Some}
use Rattle.std.specs.List.{slice_get}
use Rattle.table.specs.declared.row.Row.{Row}
use Rattle.table.specs.declared.row.Row.TheVariants as row
use Rattle.table.specs.Spans.{Spans, Branches}

-- row m is a let, and row n is one of the rows of its bound part
pub record BoundIn (rows : List Row) (m n : ℕ) : Type 0 where
  pub x : ℕ
  pub kind : ℕ
  pub l : ℕ
  pub body : ℕ
  pub is : slice_get rows m ≡ Some (row.Let x kind l body)
  pub spans : Spans rows (m + 1) body
  pub above : m < n
  pub below : n < body

-- row m is the innermost such let: each other one has row m in its bound part
pub record TakerAt (rows : List Row) (m n : ℕ) : Type 0 where
  pub bound : BoundIn rows m n
  pub inner : (k : ℕ) → BoundIn rows k n → (k ≡ m) ⊎ BoundIn rows k m

-- row b is a branch of the case at row c
pub data BranchOf (rows : List Row) (c : ℕ) : ℕ → Type 0 where
  first : {x e : ℕ} → slice_get rows c ≡ Some (row.Case x) → Branches rows (c + 1) e → BranchOf rows c (c + 1)
  next : {b m form x0 l0 : ℕ} → BranchOf rows c b → slice_get rows b ≡ Some (row.Branch form x0 l0 m) → 0 < m → BranchOf rows c m
