-- The program that the check descends over.
use Rattle.packed.specs.Shaped.{forms_of}
use Rattle.table.specs.Held.{functions_of, rows_of}
use Rattle.checker.specs.declared.descent.Descent.{Descent}
use Rattle.checker.specs.Conditions.{Program}

abbrev pub program_of : Descent → Program
program_of s = record { forms = forms_of s.shapes; functions = functions_of s.functions; rows = rows_of s.rows }
