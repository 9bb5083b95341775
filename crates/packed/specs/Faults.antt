-- Faults: the number of each ground of refusal, and what a condition that fails is answered.
use Rattle.std.specs.Prelude.{ℕ, Bool, cond, Ok, Err, Result}
use Rattle.packed.specs.declared.fault.Fault.{Fault}
use Rattle.packed.specs.declared.fault.Reason.{Reason}
use Rattle.packed.specs.declared.fault.Reason.TheVariants as reason

abbrev pub number_of : Reason → ℕ
number_of reason.BytesEnd = 11
number_of reason.BytesBehind = 12
number_of reason.Count = 13
number_of reason.Meaning = 21
number_of reason.RowOrder = 22
number_of reason.Scope = 31
number_of reason.Kind = 32
number_of reason.LocationRule = 33
number_of reason.Unwritten = 34
number_of reason.ChildLeft = 35
number_of reason.ArmsDiffer = 36
number_of reason.NoParameter = 41
number_of reason.Room = 42
number_of reason.NotOneTree = 43
number_of reason.NoOpening = 44
number_of reason.Budget = 51
number_of reason.Unfinished = 52
number_of reason.ShortBuffer = 53
number_of reason.UnknownRegion = 61
number_of reason.PastRoom = 62
number_of reason.Filled = 63
number_of reason.Empty = 64
number_of reason.OpenRefused = 65

abbrev pub found : Reason → ℕ → ℕ → Fault
found why layer p = record { reason = why; layer = layer; place = p }

-- nothing, where a test holds, or else a fault
abbrev pub given : Bool → Reason → ℕ → ℕ → Result (Unit {0}) Fault
given test why layer p = cond test (Ok tt) (Err (found why layer p))
