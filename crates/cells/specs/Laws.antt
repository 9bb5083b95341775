-- Laws of every meaning, in a client's words.
use Rattle.std.specs.Prelude.{◌≡◌, ℕ, ◌+◌, ◌<◌, ◌≤◌, length, replicate, Some, None, Ok, Err, Result}
use Rattle.packed.specs.declared.fault.Fault.{Fault}
use Rattle.packed.specs.declared.fault.Reason.TheVariants as reason
use Rattle.packed.specs.Faults.{number_of}
use Rattle.packed.specs.Packing.{refusal}
use Rattle.cells.specs.Meaning.{Meaning, Sound, region_at, room_at, cell_at, rounded, fresh}
use Rattle.cells.specs.Calls.{put_refusal, get_refusal, open_refusal, answer, byte_at, after_put, after_open}

-- a put that is accepted, of byte b into cell i of region r
pub record PutLaws (before after : Meaning) (r i b : ℕ) : Type 0 where
  -- what was put is what is got, and the cell is filled from now on
  pub got : answer (get_refusal after r i) (byte_at after r i) ≡ Ok b
  pub again : put_refusal after r i ≡ Some reason.Filled
  -- no other cell changes, nor how many regions there are, nor a room, nor what is free
  pub others : (s j : ℕ) → ((s ≡ r) × (j ≡ i) → ⊥) → cell_at after s j ≡ cell_at before s j
  pub count : length after.regions ≡ length before.regions
  pub rooms : (s : ℕ) → room_at after s ≡ room_at before s
  pub free : after.free ≡ before.free

-- an open that is accepted, of room n
pub record OpenLaws (before after : Meaning) (n : ℕ) : Type 0 where
  -- the new region has the next number, the room that was asked for, and empty cells
  pub count : length after.regions ≡ length before.regions + 1
  pub new : region_at after (length before.regions) ≡ replicate n None
  -- no open region changes
  pub others : (s : ℕ) → s < length before.regions → region_at after s ≡ region_at before s
  -- free falls by the room, rounded up
  pub lowers : after.free + rounded before.grain n ≡ before.free

pub record Laws : Type 0 where
  pub filled : (m : Meaning) (r i b : ℕ) → put_refusal m r i ≡ None → PutLaws m (after_put m r i b) r i b
  pub opened : (m : Meaning) (n : ℕ) → open_refusal m n ≡ None → OpenLaws m (after_open m n) n
  -- a filled cell keeps its byte, whatever is called
  pub stays_put : (m : Meaning) (r i b s j c : ℕ) → cell_at m s j ≡ Some c → cell_at (after_put m r i b) s j ≡ Some c
  pub stays_open : (m : Meaning) (n s j c : ℕ) → cell_at m s j ≡ Some c → cell_at (after_open m n) s j ≡ Some c
  -- free plus what the regions take is the total, and the rest of what is sound, from a new store on
  pub sound_new : (n g : ℕ) → 1 ≤ g → Sound (fresh n g)
  pub sound_put : (m : Meaning) (r i b : ℕ) → Sound m → Sound (after_put m r i b)
  pub sound_open : (m : Meaning) (n : ℕ) → Sound m → Sound (after_open m n)

-- The worked case: 64 cells in pages of 64. One cell takes the page, and a second open is refused 65.
pub record Worked : Type 0 where
  pub first : answer (open_refusal (fresh 64 64) 1) (length (fresh 64 64).regions) ≡ Ok 0
  pub none : (after_open (fresh 64 64) 1).free ≡ 0
  pub second : ◌≡◌ {A = Result ℕ Fault} (answer (open_refusal (after_open (fresh 64 64) 1) 1) 1) (Err (refusal reason.OpenRefused 0))
  pub number : number_of reason.OpenRefused ≡ 65
