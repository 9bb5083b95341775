-- What each call of a store answers, and what the store means after it.
use Rattle.std.specs.Prelude.{ℕ, ◌-◌, cond, ◌||◌, [], ◌∷◌, ◌++◌, length, replicate, is_some, Some, None, Ok, Err, Option, Result, ◌==◌, nat_le, nat_lt, slice_set}
use Rattle.std.specs.Option.{unwrap_or}
use Rattle.packed.specs.declared.fault.Fault.{Fault}
use Rattle.packed.specs.declared.fault.Reason.{Reason}
use Rattle.packed.specs.declared.fault.Reason.TheVariants as reason
use Rattle.packed.specs.Forms.{either}
use Rattle.packed.specs.Packing.{refusal}
use Rattle.cells.specs.Meaning.{Meaning, most_regions, most_cells, region_at, room_at, cell_at, rounded}

-- why a call is refused: the first ground by rising number; none where it is accepted
abbrev pub room_refusal : Meaning → ℕ → Option Reason
room_refusal m r = cond (nat_le (length m.regions) r) (Some reason.UnknownRegion) None

abbrev pub put_refusal : Meaning → ℕ → ℕ → Option Reason
put_refusal m r i =
    cond (nat_le (length m.regions) r) (Some reason.UnknownRegion)
    (cond (nat_le (room_at m r) i) (Some reason.PastRoom)
    (cond (is_some (cell_at m r i)) (Some reason.Filled) None))

abbrev pub get_refusal : Meaning → ℕ → ℕ → Option Reason
get_refusal m r i =
    cond (nat_le (length m.regions) r) (Some reason.UnknownRegion)
    (cond (nat_le (room_at m r) i) (Some reason.PastRoom)
    (cond (is_some (cell_at m r i)) None (Some reason.Empty)))

abbrev pub open_refusal : Meaning → ℕ → Option Reason
open_refusal m n =
    cond (n == 0 || (nat_lt most_cells n || (nat_le most_regions (length m.regions) || nat_lt m.free (rounded m.grain n))))
    (Some reason.OpenRefused) None

-- an answer: the value, or the refusal
abbrev pub answer : {A : Type 0} → Option Reason → A → Result A Fault
answer why a = either why (Ok a) (λ it. Err (refusal it 0))

-- the byte of a filled cell
abbrev pub byte_at : Meaning → ℕ → ℕ → ℕ
byte_at m r i = unwrap_or (cell_at m r i) 0

-- one cell filled, and one region more, whose cells are all empty
abbrev pub with_cell : Meaning → ℕ → ℕ → ℕ → Meaning
with_cell m r i b = record { total = m.total; grain = m.grain; free = m.free; regions = slice_set m.regions r (slice_set (region_at m r) i (Some b)) }

abbrev pub with_region : Meaning → ℕ → Meaning
with_region m n = record { total = m.total; grain = m.grain; free = m.free - rounded m.grain n; regions = m.regions ++ (replicate n None ∷ []) }

-- after a call: a refused one changes nothing
abbrev pub after_put : Meaning → ℕ → ℕ → ℕ → Meaning
after_put m r i b = either (put_refusal m r i) (with_cell m r i b) (λ _. m)

abbrev pub after_open : Meaning → ℕ → Meaning
after_open m n = either (open_refusal m n) (with_region m n) (λ _. m)
