-- The refusal in an answer, and refusals in words.
use Rattle.std.specs.Prelude.{ℕ, cond, List, Some, None, Ok, Err, codes, Option, Result, ◌==◌}
use Rattle.packed.specs.declared.fault.Fault.{Fault}

abbrev pub fault_of : Result ℕ Fault → Option Fault
fault_of (Ok n) = None
fault_of (Err f) = Some f

-- what each number of refusal says
abbrev pub sentence_of : ℕ → List ℕ
sentence_of n =
    cond (n == 32) (codes "there is no such type")
    (cond (n == 43) (codes "this is not exactly one tree of the type")
    (cond (n == 53) (codes "the buffer is too short") (codes "this is refused elsewhere")))
