-- What the types of this crate hold.
use Rattle.std.specs.Prelude.{List}
use Rattle.table.specs.declared.function.Function.{Function}
use Rattle.table.specs.declared.functions.Functions.{Functions}
use Rattle.table.specs.declared.row.Row.{Row}
use Rattle.table.specs.declared.rows.Rows.{Rows}
use Rattle.table.specs.Meaning.{records_from, function_of}
use Rattle.table.specs.Order.{rows_from}

abbrev pub rows_of : Rows → List Row
rows_of s = rows_from s.records.count s.records.bytes.now

abbrev pub functions_of : Functions → List Function
functions_of s = records_from 8 function_of s.records.count s.records.bytes.now
