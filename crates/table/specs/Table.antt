-- A table, as its bytes mean it: what is read, and the first fault.
use Rattle.std.specs.Prelude.{ℕ, ◌+◌, ◌-◌, ◌*◌, ◌<◌, Bool, false, List, [], ◌∷◌, map, take, drop, Ok, Err, Result, ◌==◌, slice_index}
use Rattle.std.specs.List.{slice_get}
use Rattle.packed.specs.declared.constructor.Constructor.{Constructor}
use Rattle.packed.specs.declared.constructor.Fields.{Fields}
use Rattle.packed.specs.declared.constructor.Limit.{Limit}
use Rattle.packed.specs.declared.constructor.Limit.TheVariants as limit
use Rattle.packed.specs.declared.fault.Fault.{Fault}
use Rattle.packed.specs.declared.fault.Reason.TheVariants as reason
use Rattle.packed.specs.Forms.{either, limit_of, numbered}
use Rattle.table.specs.declared.function.Function.{Function}
use Rattle.table.specs.declared.row.Row.{Row}
use Rattle.table.specs.declared.section.Layout.{Layout}
use Rattle.table.specs.Rows.{row_of}
use Rattle.packed.specs.Faults.{found, given}
use Rattle.table.specs.Sections.{onward, within, layout_of}
use Rattle.table.specs.Meaning.{records_from, fields_of, function_of, fair_function, Terms, fair_row, first_unfair}
use Rattle.table.specs.Order.{rows_from, disorder, bodies}

-- what breaks a limit of types or constructors, as a fault
abbrev pub limit_fault : Layout → Limit → Fault
limit_fault l limit.TypeCount = found reason.Count 1 (l.types.start - 2)
limit_fault l (limit.TypeSize of') = found reason.Meaning 2 (l.types.start + of')
limit_fault l limit.ConstructorCount = found reason.Count 1 (l.constructors.start - 2)
limit_fault l (limit.Constructor number) = found reason.Meaning 2 (l.constructors.start + number * 6)

-- a number that a limit names is one of a type or a constructor that a table can hold
abbrev pub Small : Limit → Type 0
Small limit.TypeCount = Unit {0}
Small (limit.TypeSize of') = of' < 65536
Small limit.ConstructorCount = Unit {0}
Small (limit.Constructor number) = number < 65536

-- an answer, whatever it answers
abbrev pub told : {A : Type 0} → Result A Fault → Result (Unit {0}) Fault
told (Ok x) = Ok tt
told (Err f) = Err f

-- where the sections of an accepted table lie, as a list of one; an empty list for a refusal
abbrev pub accepted : Result Layout Fault → List Layout
accepted (Ok l) = l ∷ []
accepted (Err f) = []

-- constructors as lists of their numbers
abbrev pub numbers_of : List Constructor → List (List ℕ)
numbers_of cs = map (λ c. c.of ∷ c.fields.integers ∷ c.fields.subtrees ∷ c.fields.types) cs

-- the records of each section
module _ (bs : List ℕ) (l : Layout) where
  abbrev pub sizes_in : List ℕ
  sizes_in = within bs l.types

  abbrev pub constructors_in : List Fields
  constructors_in = records_from 6 fields_of l.constructors.count (within bs l.constructors)

  abbrev pub functions_in : List Function
  functions_in = records_from 8 function_of l.functions.count (within bs l.functions)

  abbrev pub rows_in : List Row
  rows_in = rows_from l.rows.count (within bs l.rows)

  abbrev pub terms_in : Terms
  terms_in = record { types = l.types.count; forms = numbered 0 sizes_in constructors_in; functions = functions_in }

  -- whether function i, or row i, is there and all its numbers have a meaning
  abbrev pub fair_function_at : ℕ → Bool
  fair_function_at i = either (slice_get functions_in i) false (fair_function l.types.count i)

  abbrev pub fair_row_at : ℕ → Bool
  fair_row_at i = either (row_of (take 16 (drop (i * 16) (within bs l.rows)))) false (fair_row terms_in)

  -- the edition, types, constructors, functions and rows, in the order of their places
  abbrev pub meaning_of : Result (Unit {0}) Fault
  meaning_of =
      onward (given (slice_index bs 0 == 1) reason.Meaning 2 0) (λ _.
      onward (either (limit_of sizes_in constructors_in) (Ok (tt {0})) (λ b. Err (limit_fault l b))) (λ _.
      onward (first_unfair fair_function_at l.functions.start 8 0 l.functions.count) (λ _.
      first_unfair fair_row_at l.rows.start 16 0 l.rows.count)))

  -- rows and first rows
  abbrev pub order_of : Result (Unit {0}) Fault
  order_of = either (disorder (bodies (map (λ f. f.first) functions_in)) rows_in 0) (Ok (tt {0})) (λ n. Err (found reason.RowOrder 2 (l.rows.start + n * 16)))

-- Layer 1 over the whole table, then layer 2: all numbers, then the order of rows.
abbrev pub table_of : List ℕ → Result Layout Fault
table_of bs =
    onward (layout_of bs) (λ l.
    onward (meaning_of bs l) (λ _.
    onward (order_of bs l) (λ _. Ok l)))
