-- Regions one behind another.
use Rattle.std.specs.Prelude.{◌≡◌, ℕ, zero, suc, ◌+◌, ◌-◌, ◌/◌, ◌<◌, ◌≤◌, List, slice_index_or}
use Rattle.stores.specs.declared.regions.Region.{Region}

-- region k of a list; past the last, one without cells
abbrev pub region_of : List Region → ℕ → Region
region_of rs k = slice_index_or rs k (record { first = 0; room = 0 })

abbrev pub first_of : List Region → ℕ → ℕ
first_of rs k = (region_of rs k).first

abbrev pub room_of : List Region → ℕ → ℕ
room_of rs k = (region_of rs k).room

-- how many grains a room needs
abbrev pub grains_of : ℕ → ℕ → ℕ
grains_of grain room = (room + (grain - 1)) / grain

-- how many grains the regions before region k take
abbrev pub grains_before : ℕ → List Region → ℕ → ℕ
grains_before grain rs zero = 0
grains_before grain rs (suc k) = grains_before grain rs k + grains_of grain (room_of rs k)

-- the regions that are open have rooms that are allowed, each begins where the one before it ends, and all lie within the grains
pub record InOrder (list : List Region) (count grain grains taken : ℕ) : Type 0 where
  pub grained : 1 ≤ grain
  pub few : count ≤ 32
  pub allowed : (k : ℕ) → k < count → (1 ≤ room_of list k) × (room_of list k ≤ 32768)
  pub placed : (k : ℕ) → k < count → first_of list k ≡ grains_before grain list k
  pub used : taken ≡ grains_before grain list count
  pub within : taken ≤ grains
