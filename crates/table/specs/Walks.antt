-- What the functions that read rows in order answer.
use Rattle.std.specs.Prelude.{◌≡◌, ℕ, ◌+◌, true, false, cond, List, [], ◌∷◌, drop, Some, None, Ok, Err, Option, Result, ◌==◌}
use Rattle.table.specs.declared.row.Row.{Row}
use Rattle.table.specs.declared.order.walk.Walk.{Walk}
use Rattle.table.specs.declared.order.hanging.Hanging.{Hanging}
use Rattle.table.specs.declared.order.hanging.Hanging.TheVariants as hanging
use Rattle.table.specs.Held.{rows_of}
use Rattle.table.specs.Order.{Due, child, later, branch, further, children, is_branch, least, disorder}

-- the lowest row that is out of order, where this is due from row n on, and of the rows before it this is the lowest
abbrev pub from : List Row → ℕ → Option ℕ → List Due → Option ℕ
from rows n lowest due = least lowest (disorder due (drop n rows) n)

-- the same of a walk
abbrev pub left : Walk → List Due → Option ℕ
left w due = from (rows_of w.rows) w.end w.lowest due

-- how it goes on behind what was read; or the reading broke off, and names the row
abbrev pub behind : {A : Type 0} → Result A ℕ → (A → Option ℕ) → Option ℕ
behind (Ok x) more = more x
behind (Err m) more = Some m

-- the walk behind the next row
abbrev pub stepped : Walk → Walk
stepped w = record { rows = w.rows; end = w.end + 1; lowest = w.lowest }

-- the walk after a test of row n, which says that what is due next starts at row h
abbrev pub named : Walk → ℕ → ℕ → Walk
named w n h = record { rows = w.rows; end = w.end; lowest = least w.lowest (cond (h == w.end) None (Some n)) }

-- what is due behind row n where this hangs on it
abbrev pub hung : ℕ → Hanging → List Due
hung n hanging.Nothing = []
hung n hanging.Child = child ∷ []
hung n (hanging.Children start) = child ∷ later n start ∷ []
hung n hanging.Branches = branch ∷ []

-- this hangs on row n, unless the row is a branch
abbrev pub Hangs : ℕ → Row → Option Hanging → Type 0
Hangs n r (Some h) = (is_branch r ≡ false) × (children n r ≡ hung n h)
Hangs n r None = is_branch r ≡ true

-- what is due behind the child of the branch at row n, where it names this branch behind it, if one
abbrev pub trailing : ℕ → Option ℕ → List Due
trailing n None = []
trailing n (Some h) = further n h ∷ []
