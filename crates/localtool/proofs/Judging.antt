-- From a table that was checked to the types that a command names.
use Rattle.std.proofs.Common.{◌≡◌, ℕ, List, Ok, Result, sym, ap, ◌∙◌}
use Rattle.packed.specs.declared.fault.Fault.{Fault}
use Rattle.table.specs.declared.section.Layout.{Layout}
use Rattle.table.specs.declared.table.Table.{Table}
use Rattle.table.specs.Sections.{onward}
use Rattle.table.specs.Table.{table_of}
use Rattle.table.specs.Tabled.{bytes_of}
use Rattle.table.proofs.Tabling.{table-read}
use Rattle.checker.specs.Checking.{check_of}
use Rattle.localtool.specs.Programs.{Types, types_in, judged_of, held}

abbrev right : Types → Result Types Fault
right ts = Ok ts

abbrev read : List ℕ → Result Layout Fault → Result Types Fault
read bytes r = onward r (λ l. right (types_in bytes l))

abbrev judged : List ℕ → Result (Unit {0}) Fault → Result Types Fault
judged bytes r = onward r (λ _. read bytes (table_of bytes))

-- an accepted table is held, so its types are those that were asked for
types-held : (t : Table) (bytes : List ℕ) → bytes_of t ≡ bytes → right (held t) ≡ read bytes (table_of bytes)
types-held t bytes same =
    ap (λ x. right (types_in x t.layout)) same
    ∙ sym (ap (read bytes) (ap table_of (sym same) ∙ table-read t))

pub judged-right : (t : Table) (bytes : List ℕ) → Ok tt ≡ check_of bytes → bytes_of t ≡ bytes → right (held t) ≡ judged_of bytes
judged-right t bytes e same = types-held t bytes same ∙ ap (judged bytes) e
