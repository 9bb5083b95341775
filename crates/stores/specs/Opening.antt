-- What regions mean, what is asked of them, and what an open changes.
use Rattle.std.specs.Prelude.{◌≡◌, ℕ, ◌+◌, ◌-◌, ◌*◌, cond, ◌||◌, Some, None, Option, ◌==◌, nat_le, nat_lt}
use Rattle.std.proofs.Common.{set}
use Rattle.packed.specs.declared.fault.Reason.{Reason}
use Rattle.packed.specs.declared.fault.Reason.TheVariants as reason
use Rattle.cells.specs.Meaning.{Meaning, most_regions, most_cells}
use Rattle.cells.specs.Laid.{laid}
use Rattle.stores.specs.declared.regions.Regions.{Regions}
use Rattle.stores.specs.Regions.{first_of, room_of, grains_of}

abbrev pub first_in : Regions → ℕ → ℕ
first_in s k = first_of s.list k

abbrev pub room_in : Regions → ℕ → ℕ
room_in s k = room_of s.list k

-- what a store means by its regions, where a function tells what stands in each cell of each
abbrev pub meaning_in : Regions → (ℕ → ℕ → Option ℕ) → Meaning
meaning_in s look = record {
  total = s.grains * s.grain;
  grain = s.grain;
  free = (s.grains - s.taken) * s.grain;
  regions = laid s.count (room_in s) look;
}

-- why there is no such region, or no such cell in it
abbrev pub unknown : Regions → ℕ → Option Reason
unknown s r = cond (nat_le s.count r) (Some reason.UnknownRegion) None

abbrev pub outside : Regions → ℕ → ℕ → Option Reason
outside s r i = cond (nat_le s.count r) (Some reason.UnknownRegion) (cond (nat_le (room_in s r) i) (Some reason.PastRoom) None)

-- why no region of this room can be opened
abbrev pub shut : Regions → ℕ → Option Reason
shut s room =
    cond (room == 0 || (nat_lt most_cells room || (nat_le most_regions s.count || nat_lt (s.grains - s.taken) (grains_of s.grain room))))
    (Some reason.OpenRefused) None

-- one region more, behind the last
pub record Opened (before after : Regions) (room : ℕ) : Type 0 where
  pub list : after.list ≡ set before.list before.count (record { first = before.taken; room = room })
  pub count : after.count ≡ before.count + 1
  pub grain : after.grain ≡ before.grain
  pub grains : after.grains ≡ before.grains
  pub taken : after.taken ≡ before.taken + grains_of before.grain room
