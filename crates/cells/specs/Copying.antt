-- Bytes that are put into a region of their own.
use Rattle.std.specs.Prelude.{◌≡◌, ℕ, ◌+◌, ◌-◌, ◌<◌, cond, List, [], ◌∷◌, ◌++◌, map, length, drop, Some, Ok, Err, Option, Result, nat_lt}
use Rattle.packed.specs.declared.fault.Fault.{Fault}
use Rattle.packed.specs.declared.fault.Reason.{Reason}
use Rattle.packed.specs.declared.fault.Reason.TheVariants as reason
use Rattle.packed.specs.Forms.{either}
use Rattle.cells.specs.Meaning.{Meaning, region_at, rounded, taken}
use Rattle.cells.specs.Calls.{open_refusal}

-- one region more, whose cells hold the bytes
abbrev pub with_bytes : Meaning → List ℕ → Meaning
with_bytes m bytes = record { total = m.total; grain = m.grain; free = m.free - rounded m.grain (length bytes); regions = m.regions ++ (map Some bytes ∷ []) }

abbrev pub after_hold : Meaning → List ℕ → Meaning
after_hold m bytes = either (open_refusal m (length bytes)) (with_bytes m bytes) (λ _. m)

-- a buffer that is too short is refused first
abbrev pub copy_refusal : Meaning → List ℕ → List ℕ → Option Reason
copy_refusal m bytes back = cond (nat_lt (length back) (length bytes)) (Some reason.ShortBuffer) (open_refusal m (length bytes))

abbrev pub after_copy : Meaning → List ℕ → List ℕ → Meaning
after_copy m bytes back = either (copy_refusal m bytes back) (with_bytes m bytes) (λ _. m)

-- what the buffer holds then: the bytes in front; a refusal leaves it
abbrev pub gotten : Result ℕ Fault → List ℕ → List ℕ → List ℕ
gotten (Ok k) bytes old = bytes ++ drop (length bytes) old
gotten (Err f) bytes old = old

-- what a client sees of a store that holds bytes in region k
pub record Copied (before after : Meaning) (k : ℕ) (bytes : List ℕ) : Type 0 where
  -- the region has the next number, is as long as the bytes and holds them
  pub number : k ≡ length before.regions
  pub count : length after.regions ≡ length before.regions + 1
  pub holds : region_at after k ≡ map Some bytes
  -- no region that was open has changed
  pub others : (s : ℕ) → s < length before.regions → region_at after s ≡ region_at before s
  -- free has fallen by the room, rounded up, and free plus what the regions take is still the total
  pub lowers : after.free + rounded before.grain (length bytes) ≡ before.free
  pub whole : after.free + taken after.grain after.regions ≡ before.total
