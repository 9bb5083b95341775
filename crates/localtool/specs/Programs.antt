-- The program of a command: what is known of a table that the check accepts.
use Rattle.std.specs.Prelude.{ℕ, List, Ok, Err, Result}
use Rattle.packed.specs.declared.constructor.Constructor.{Constructor}
use Rattle.packed.specs.declared.fault.Fault.{Fault}
use Rattle.packed.specs.Forms.{numbered}
use Rattle.table.specs.declared.section.Layout.{Layout}
use Rattle.table.specs.declared.table.Table.{Table}
use Rattle.table.specs.Sections.{onward}
use Rattle.table.specs.Table.{constructors_in, sizes_in, table_of}
use Rattle.checker.specs.declared.checked.Checked.{Checked}
use Rattle.checker.specs.Checking.{check_of, forms_held, types_held}

-- the constructors, by number, and how many types there are
pub record Types : Type 0 where
  pub forms : List Constructor
  pub count : ℕ

abbrev pub types_in : List ℕ → Layout → Types
types_in bytes l = record { forms = numbered 0 (sizes_in bytes l) (constructors_in bytes l); count = l.types.count }

-- the types of a table that is accepted, or its first fault
abbrev pub judged_of : List ℕ → Result Types Fault
judged_of bytes = onward (check_of bytes) (λ _. onward (table_of bytes) (λ l. Ok (types_in bytes l)))

abbrev pub held : Table → Types
held t = record { forms = forms_held t; count = types_held t }

-- the types of a program, or the fault of a table
abbrev pub shown : Result Checked Fault → Result Types Fault
shown (Ok c) = Ok (held c.table)
shown (Err f) = Err f
