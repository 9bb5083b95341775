-- The sections of a table, and whether the bytes and the counts fit them.
use Rattle.std.specs.Prelude.{ℕ, ◌+◌, ◌-◌, ◌*◌, ◌/◌, Bool, cond, ◌&&◌, List, length, take, drop, Ok, Err, Result, ◌==◌, nat_le}
use Rattle.packed.specs.declared.fault.Fault.{Fault}
use Rattle.packed.specs.declared.fault.Reason.TheVariants as reason
use Rattle.packed.specs.Faults.{found, given}
use Rattle.packed.specs.Forms.{total}
use Rattle.table.specs.declared.section.Section.{Section}
use Rattle.table.specs.declared.section.Layout.{Layout}
use Rattle.table.specs.Rows.{word}

-- what goes on where nothing was refused
abbrev pub onward : {A B : Type 0} → Result A Fault → (A → Result B Fault) → Result B Fault
onward (Ok x) more = more x
onward (Err f) more = Err f

-- The section whose count stands at a place. Bytes that end before it does are found where the first count or record
-- starts that is not whole.
abbrev pub section_of : ℕ → List ℕ → ℕ → Result Section Fault
section_of width bs at =
    cond (nat_le (at + 2) (length bs))
    (cond (nat_le (word bs at) ((length bs - (at + 2)) / width))
    (Ok (record { start = at + 2; count = word bs at; end = at + 2 + word bs at * width }))
    (Err (found reason.BytesEnd 1 (at + 2 + (length bs - (at + 2)) / width * width))))
    (Err (found reason.BytesEnd 1 at))

-- the edition, then types, constructors, functions and rows
abbrev pub sections_of : List ℕ → Result Layout Fault
sections_of bs =
    onward (given (nat_le 1 (length bs)) reason.BytesEnd 1 0) (λ _.
    onward (section_of 1 bs 1) (λ types.
    onward (section_of 6 bs types.end) (λ constructors.
    onward (section_of 8 bs constructors.end) (λ functions.
    onward (section_of 16 bs functions.end) (λ rows.
    Ok (record { types = types; constructors = constructors; functions = functions; rows = rows }))))))

-- the records' bytes
abbrev pub within : List ℕ → Section → List ℕ
within bs s = take (s.end - s.start) (drop s.start bs)

abbrev pub in_range : ℕ → ℕ → ℕ → Bool
in_range low n high = nat_le low n && nat_le n high

-- a count stands two bytes before its records
abbrev pub counts_of : List ℕ → Layout → Result (Unit {0}) Fault
counts_of bs l =
    onward (given (in_range 1 l.types.count 16) reason.Count 1 (l.types.start - 2)) (λ _.
    onward (given (total (within bs l.types) == l.constructors.count && nat_le l.constructors.count 64) reason.Count 1 (l.constructors.start - 2)) (λ _.
    onward (given (in_range 1 l.functions.count 32) reason.Count 1 (l.functions.start - 2)) (λ _.
    given (in_range 1 l.rows.count 1024) reason.Count 1 (l.rows.start - 2))))

-- Layer 1: bytes that end too soon, bytes behind the rows, then counts.
abbrev pub layout_of : List ℕ → Result Layout Fault
layout_of bs =
    onward (sections_of bs) (λ l.
    onward (given (nat_le (length bs) l.rows.end) reason.BytesBehind 1 l.rows.end) (λ _.
    onward (counts_of bs l) (λ _. Ok l)))
