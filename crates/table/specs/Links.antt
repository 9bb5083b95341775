-- For every row the innermost let whose bound part holds it, and for a branch its case, by search.
use Rattle.std.specs.Prelude.{ℕ, zero, suc, ◌+◌, Bool, true, false, cond, ◌&&◌, List, length, Some, None, Option, ◌==◌, nat_lt}
use Rattle.std.specs.List.{slice_get}
use Rattle.packed.specs.Forms.{either}
use Rattle.table.specs.declared.row.Row.{Row}
use Rattle.table.specs.declared.row.Row.TheVariants as row

-- the row at which the bound part of a let ends and its body starts; 0 for a row that is no let
abbrev pub bound_end : Row → ℕ
bound_end (row.Let x kind l start) = start
bound_end _ = 0

-- the branch that a branch names behind itself; 0 where it names none, and for a row that is no branch
abbrev pub next_branch : Row → ℕ
next_branch (row.Branch form x0 l0 next) = next
next_branch _ = 0

abbrev pub is_case : Row → Bool
is_case (row.Case x) = true
is_case _ = false

-- the same by row number, where rows past the last are none of these
abbrev pub bound_end_at : List Row → ℕ → ℕ
bound_end_at rows m = either (slice_get rows m) 0 bound_end

abbrev pub next_at : List Row → ℕ → ℕ
next_at rows m = either (slice_get rows m) 0 next_branch

abbrev pub is_case_at : List Row → ℕ → Bool
is_case_at rows m = either (slice_get rows m) false is_case

-- the row that row m leads to: a case to its first branch, a branch to the next; 0 for none
abbrev pub leads : List Row → ℕ → ℕ
leads rows m = cond (is_case_at rows m) (m + 1) (next_at rows m)

-- whether row m is a let that binds row n: whether its bound part, rows m + 1 to body − 1, holds row n
abbrev pub binds : List Row → ℕ → ℕ → Bool
binds rows m n = nat_lt m n && nat_lt n (bound_end_at rows m)

-- the greatest row below m that binds row n
abbrev pub taker_below : List Row → ℕ → ℕ → Option ℕ
taker_below rows n zero = None
taker_below rows n (suc m) = cond (binds rows m n) (Some m) (taker_below rows n m)

-- the taker of row n: the innermost let whose bound part holds it
abbrev pub taker_of : List Row → ℕ → Option ℕ
taker_of rows n = taker_below rows n n

-- the same where there is a row n
abbrev pub taker_for : List Row → ℕ → Option ℕ
taker_for rows n = cond (nat_lt n (length rows)) (taker_of rows n) None

-- The case that the greatest row below m to lead to row b leads from, for m up to b: a case leads to the row behind it,
-- and a branch leads from its own case to the branch that it names. No branch names row 0, and no row stands below it.
abbrev pub case_below : List Row → ℕ → ℕ → Option ℕ
case_below rows b zero = None
case_below rows b (suc m) = cond (is_case_at rows m && m + 1 == b) (Some m) (cond (next_at rows m == b) (case_below rows m m) (case_below rows b m))

-- the case of the branch at row b
abbrev pub case_of : List Row → ℕ → Option ℕ
case_of rows b = case_below rows b b

-- the same where there is a row b
abbrev pub case_for : List Row → ℕ → Option ℕ
case_for rows b = cond (nat_lt b (length rows)) (case_of rows b) None
