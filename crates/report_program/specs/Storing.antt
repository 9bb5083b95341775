-- What is told of bytes that a store was to hold.
use Rattle.std.specs.Prelude.{ℕ, Ok, Err, Result}
use Rattle.packed.specs.declared.fault.Fault.{Fault}
use Rattle.report_program.specs.declared.stored.Stored.{Stored}

-- the region that they were put into, or the refusal
abbrev pub region_told : Result Stored Fault → Result ℕ Fault
region_told (Ok s) = Ok s.region
region_told (Err f) = Err f
