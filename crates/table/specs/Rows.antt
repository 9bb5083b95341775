-- A row by its sixteen bytes: the kind, its operands, and nothing but 0 behind them.
use Rattle.std.specs.Prelude.{ℕ, ◌+◌, ◌*◌, Bool, cond, List, length, take, None, Option, ◌==◌, slice_index}
use Rattle.std.specs.Bool.{then_some}
use Rattle.std.specs.List.{between, list_all}
use Rattle.packed.specs.Packing.{integer}
use Rattle.table.specs.declared.row.Row.{Row}
use Rattle.table.specs.declared.row.Row.TheVariants as row

-- two bytes, low byte first
abbrev pub word : List ℕ → ℕ → ℕ
word bs i = slice_index bs i + 256 * slice_index bs (i + 1)

abbrev pub zeros : List ℕ → Bool
zeros bs = list_all (λ b. b == 0) bs

-- a row, if nothing but 0 stands behind it
abbrev pub closed : Row → List ℕ → Option Row
closed r rest = then_some (zeros rest) r

-- a row whose operands are the first n of these bytes
abbrev pub ended : ℕ → List ℕ → Row → Option Row
ended n bs r = closed r (between n (length bs) bs)

abbrev pub variable_of : List ℕ → Option Row
variable_of bs = ended 1 bs (row.Variable (slice_index bs 0))

abbrev pub number_of : List ℕ → Option Row
number_of bs = ended 8 bs (row.Number (integer (take 8 bs)))

abbrev pub sum_of : List ℕ → Option Row
sum_of bs = ended 2 bs (row.Sum (slice_index bs 0) (slice_index bs 1))

abbrev pub difference_of : List ℕ → Option Row
difference_of bs = ended 2 bs (row.Difference (slice_index bs 0) (slice_index bs 1))

abbrev pub region_of : List ℕ → Option Row
region_of bs = ended 3 bs (row.Region (slice_index bs 0) (word bs 1))

abbrev pub start_of : List ℕ → Option Row
start_of bs = ended 2 bs (row.Start (slice_index bs 0) (slice_index bs 1))

abbrev pub past_of : List ℕ → Option Row
past_of bs = ended 3 bs (row.Past (slice_index bs 0) (slice_index bs 1) (slice_index bs 2))

abbrev pub after_of : List ℕ → Option Row
after_of bs = ended 3 bs (row.After (slice_index bs 0) (slice_index bs 1) (slice_index bs 2))

abbrev pub construct_of : List ℕ → Option Row
construct_of bs = ended 10 bs (row.Construct (slice_index bs 0) (slice_index bs 1) (slice_index bs 2) (slice_index bs 3) (slice_index bs 4) (slice_index bs 5) (slice_index bs 6) (slice_index bs 7) (slice_index bs 8) (slice_index bs 9))

abbrev pub let_of : List ℕ → Option Row
let_of bs = ended 5 bs (row.Let (slice_index bs 0) (slice_index bs 1) (slice_index bs 2) (word bs 3))

abbrev pub test_of : List ℕ → Option Row
test_of bs = ended 4 bs (row.Test (slice_index bs 0) (slice_index bs 1) (word bs 2))

abbrev pub call_of : List ℕ → Option Row
call_of bs = ended 6 bs (row.Call (slice_index bs 0) (slice_index bs 1) (slice_index bs 2) (slice_index bs 3) (slice_index bs 4) (slice_index bs 5))

abbrev pub case_of : List ℕ → Option Row
case_of bs = ended 1 bs (row.Case (slice_index bs 0))

abbrev pub branch_of : List ℕ → Option Row
branch_of bs = ended 5 bs (row.Branch (slice_index bs 0) (slice_index bs 1) (slice_index bs 2) (word bs 3))

-- by the kind byte
abbrev pub operands_of : ℕ → List ℕ → Option Row
operands_of kind bs =
    cond (kind == 0) (variable_of bs)
    (cond (kind == 1) (number_of bs)
    (cond (kind == 2) (sum_of bs)
    (cond (kind == 3) (difference_of bs)
    (cond (kind == 4) (region_of bs)
    (cond (kind == 5) (start_of bs)
    (cond (kind == 6) (past_of bs)
    (cond (kind == 7) (after_of bs)
    (cond (kind == 8) (construct_of bs)
    (cond (kind == 9) (let_of bs)
    (cond (kind == 10) (test_of bs)
    (cond (kind == 11) (call_of bs)
    (cond (kind == 12) (case_of bs)
    (cond (kind == 13) (branch_of bs)
    None)))))))))))))

-- the row that bytes spell, if they are sixteen and spell one
abbrev pub row_of : List ℕ → Option Row
row_of bs = cond (length bs == 16) (operands_of (slice_index bs 0) (between 1 (length bs) bs)) None
