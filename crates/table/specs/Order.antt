-- The order of rows: what is due where, and the lowest row that is out of order.
use Rattle.std.specs.Prelude.{ℕ, zero, suc, ◌+◌, min, Bool, true, false, cond, not, ◌&&◌, List, [], ◌∷◌, ◌++◌, map, take, drop, Some, None, Option, ◌==◌}
use Rattle.packed.specs.Forms.{either}
use Rattle.table.specs.declared.row.Row.{Row}
use Rattle.table.specs.declared.row.Row.TheVariants as row
use Rattle.table.specs.Rows.{row_of}

-- the rows of `count` times sixteen bytes, up to one that is none
abbrev pub rows_from : ℕ → List ℕ → List Row
rows_from zero bs = []
rows_from (suc count) bs = either (row_of (take 16 bs)) [] (λ r. r ∷ rows_from count (drop 16 bs))

-- What is due at a row.
pub data Due : Type 0 where
  -- the body of a function, which says that this is its first row
  body : ℕ → Due
  -- the first child of the row before
  child : Due
  -- a later child of row n, which says that it starts at row h
  later : ℕ → ℕ → Due
  -- the first branch of the case before
  branch : Due
  -- the branch behind the branch at row n, which says that it starts at row h
  further : ℕ → ℕ → Due

-- what is due behind the child of the branch at row n
abbrev pub furthers : ℕ → ℕ → List Due
furthers n next = cond (next == 0) [] (further n next ∷ [])

-- what is due behind row n: the first child is the next row, and each next child starts where the former's rows end
abbrev pub children : ℕ → Row → List Due
children n (row.Region r room) = child ∷ []
children n (row.Start l r) = child ∷ []
children n (row.Past l m k) = child ∷ []
children n (row.After l m t) = child ∷ []
children n (row.Let x kind l start) = child ∷ later n start ∷ []
children n (row.Test x y other) = child ∷ later n other ∷ []
children n (row.Case x) = branch ∷ []
children n (row.Branch form x0 l0 next) = child ∷ furthers n next
children n _ = []

abbrev pub is_branch : Row → Bool
is_branch (row.Branch form x0 l0 next) = true
is_branch _ = false

-- whether row n may stand where this is due: branches where branches are, a function's body where the function says
abbrev pub stands : Due → ℕ → Row → Bool
stands (body h) n r = h == n && not (is_branch r)
stands child n r = not (is_branch r)
stands (later m h) n r = not (is_branch r)
stands branch n r = is_branch r
stands (further m h) n r = is_branch r

-- the row that names another row than n for what is due at n
abbrev pub misnamed : Due → ℕ → Option ℕ
misnamed (body h) n = None
misnamed child n = None
misnamed (later m h) n = cond (h == n) None (Some m)
misnamed branch n = None
misnamed (further m h) n = cond (h == n) None (Some m)

abbrev pub least : Option ℕ → Option ℕ → Option ℕ
least None o = o
least (Some m) None = Some m
least (Some m) (Some n) = Some (min m n)

-- The lowest row that is out of order, from row n on: one that is missing, over, of a wrong kind, or that should be a
-- function's first row, which breaks the reading off; or one that names a wrong row, after which the reading goes on.
abbrev pub disorder : List Due → List Row → ℕ → Option ℕ
disorder [] [] n = None
disorder [] (r ∷ rows) n = Some n
disorder (d ∷ due) [] n = least (misnamed d n) (Some n)
disorder (d ∷ due) (r ∷ rows) n = least (misnamed d n) (cond (stands d n r) (disorder (children n r ++ due) rows (n + 1)) (Some n))

-- the bodies of functions with these first rows, one behind the other
abbrev pub bodies : List ℕ → List Due
bodies firsts = map body firsts
