-- The program that is written in the source, and what is told of its rows.
use Rattle.std.specs.Prelude.{ℕ, cond, List, [], ◌∷◌, length, nat_lt, slice_index}
use Rattle.packed.specs.declared.constructor.Fields.{Fields}
use Rattle.reporting.specs.Listed.{fields, end_fields, folder_fields, entry_fields, kept_fields, gone_fields}
use Rattle.table.specs.declared.function.Function.{Function}
use Rattle.table.specs.declared.row.Row.{Row}
use Rattle.table.specs.declared.row.Row.TheVariants as row

-- The program's types: those of the list, a list of lines, and the report.
abbrev pub program_sizes : List ℕ
program_sizes = 2 ∷ 2 ∷ 2 ∷ 2 ∷ 1 ∷ []

-- their constructors: those of the list; the end of lines, and a line; the report
abbrev pub program_fields : List Fields
program_fields =
    end_fields
    ∷ folder_fields
    ∷ end_fields
    ∷ entry_fields
    ∷ kept_fields
    ∷ gone_fields
    ∷ end_fields
    ∷ fields 2 1 (3 ∷ 255 ∷ 255 ∷ 255 ∷ [])
    ∷ fields 1 2 (3 ∷ 3 ∷ 255 ∷ 255 ∷ [])
    ∷ []

abbrev pub function : ℕ → List ℕ → ℕ → ℕ → Function
function n ks r row = record { parameters = n; kinds = ks; result = r; first = row }

-- main; the lines of folders, and of entries; how many are gone in folders, and in entries
abbrev pub program_functions : List Function
program_functions =
    function 1 (0 ∷ 255 ∷ 255 ∷ 255 ∷ []) 4 0
    ∷ function 3 (0 ∷ 254 ∷ 254 ∷ 255 ∷ []) 3 17
    ∷ function 4 (1 ∷ 0 ∷ 254 ∷ 254 ∷ []) 3 22
    ∷ function 1 (0 ∷ 255 ∷ 255 ∷ 255 ∷ []) 254 38
    ∷ function 2 (1 ∷ 0 ∷ 255 ∷ 255 ∷ []) 254 43
    ∷ []

-- the operand at i, 255 behind the last
abbrev pub operand : List ℕ → ℕ → ℕ
operand names i = cond (nat_lt i (length names)) (slice_index names i) 255

abbrev pub none : List ℕ
none = 255 ∷ 255 ∷ 255 ∷ 255 ∷ 255 ∷ 255 ∷ 255 ∷ 255 ∷ []

-- the variables that a construct or a call uses, with 255 behind the last
abbrev pub names_of : Row → List ℕ
names_of (row.Variable x) = none
names_of (row.Number value) = none
names_of (row.Sum x y) = none
names_of (row.Difference x y) = none
names_of (row.Region r room) = none
names_of (row.Start l r) = none
names_of (row.Past l m k) = none
names_of (row.After l m t) = none
names_of (row.Construct form l v0 v1 v2 v3 v4 v5 v6 v7) = v0 ∷ v1 ∷ v2 ∷ v3 ∷ v4 ∷ v5 ∷ v6 ∷ v7 ∷ []
names_of (row.Let x kind l body) = none
names_of (row.Test x y other) = none
names_of (row.Call f l v0 v1 v2 v3) = v0 ∷ v1 ∷ v2 ∷ v3 ∷ 255 ∷ 255 ∷ 255 ∷ 255 ∷ []
names_of (row.Case x) = none
names_of (row.Branch form x0 l0 next) = none
