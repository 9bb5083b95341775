-- The rows that are out of order, as a relation.
use Rattle.std.specs.Prelude.{◌≡◌, ℕ, ◌+◌, true, false, List, [], ◌∷◌, ◌++◌, Some, None}
use Rattle.std.specs.List.{slice_get}
use Rattle.table.specs.declared.row.Row.{Row}
use Rattle.table.specs.Order.{Due, children, stands, misnamed, bodies}

-- Reading rows firsts due n: all rows before row n stand where they do, and this is due from row n on.
pub data Reading (rows : List Row) (firsts : List ℕ) : List Due → ℕ → Type 0 where
  begin : Reading rows firsts (bodies firsts) 0
  on : {d : Due} {due : List Due} {n : ℕ} {r : Row} → Reading rows firsts (d ∷ due) n → slice_get rows n ≡ Some r → stands d n r ≡ true → Reading rows firsts (children n r ++ due) (n + 1)

-- Faulty rows firsts p: row p is out of order.
pub data Faulty (rows : List Row) (firsts : List ℕ) : ℕ → Type 0 where
  -- something is due behind the last row
  missing : {d : Due} {due : List Due} {n : ℕ} → Reading rows firsts (d ∷ due) n → slice_get rows n ≡ None → Faulty rows firsts n
  -- a row stands where nothing is due
  over : {n : ℕ} {r : Row} → Reading rows firsts [] n → slice_get rows n ≡ Some r → Faulty rows firsts n
  -- a branch stands where none is due, or another row where one is; or a body starts where its function does not say
  misplaced : {d : Due} {due : List Due} {n : ℕ} {r : Row} → Reading rows firsts (d ∷ due) n → slice_get rows n ≡ Some r → stands d n r ≡ false → Faulty rows firsts n
  -- row m holds a number that is not that of the row for which it stands, row n
  misnaming : {d : Due} {due : List Due} {n m : ℕ} → Reading rows firsts (d ∷ due) n → misnamed d n ≡ Some m → Faulty rows firsts m
