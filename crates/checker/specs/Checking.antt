-- The whole check of a table's bytes: what is accepted, and the first fault of what is not.
use Rattle.std.specs.Prelude.{ℕ, List, Result}
use Rattle.packed.specs.declared.constructor.Constructor.{Constructor}
use Rattle.packed.specs.declared.fault.Fault.{Fault}
use Rattle.packed.specs.Forms.{numbered}
use Rattle.table.specs.declared.section.Layout.{Layout}
use Rattle.table.specs.declared.table.Table.{Table}
use Rattle.table.specs.First as table
use Rattle.table.specs.Formed.{Formed}
use Rattle.table.specs.Sections.{onward}
use Rattle.table.specs.Table.{table_of, sizes_in, constructors_in, functions_in, rows_in}
use Rattle.table.specs.Tabled.{bytes_of}
use Rattle.checker.specs.Conditions.{Program}
use Rattle.checker.specs.Verdict.{verdict_of}
use Rattle.checker.specs.Rules.{WellTyped}
use Rattle.checker.specs.First.{Broken}

-- the program of a table with its sections there
abbrev pub program_in : List ℕ → Layout → Program
program_in bs l = record { forms = numbered 0 (sizes_in bs l) (constructors_in bs l); functions = functions_in bs l; rows = rows_in bs l }

-- layers 1 and 2, then layer 3
abbrev pub check_of : List ℕ → Result (Unit {0}) Fault
check_of bs = onward (table_of bs) (λ l. verdict_of (program_in bs l))

-- bytes that are a table, all of whose functions are well typed
pub record Accepted (bs : List ℕ) : Type 0 where
  pub layout : Layout
  pub formed : Formed bs layout
  pub typed : WellTyped (program_in bs layout)

-- FirstFault bs f: f is the first fault of bytes that are no table, or of a table whose functions break a typing rule.
pub data FirstFault (bs : List ℕ) : Fault → Type 0 where
  reading : {f : Fault} → table.First bs f → FirstFault bs f
  typing : {f : Fault} {l : Layout} → Formed bs l → Broken (program_in bs l) f → FirstFault bs f

-- the constructors of the table that is held, and how many types it has
abbrev pub forms_held : Table → List Constructor
forms_held t = (program_in (bytes_of t) t.layout).forms

abbrev pub types_held : Table → ℕ
types_held t = t.layout.types.count
