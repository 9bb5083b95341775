-- What a store of cells means, and what holds of every such meaning.
use Rattle.std.specs.Prelude.{◌≡◌, ℕ, ◌+◌, ◌-◌, ◌*◌, ◌/◌, ◌<◌, ◌≤◌, List, [], ◌∷◌, length, None, Option, slice_index_or}

-- regions are numbered by their place in the list; a cell is empty or holds a byte
pub record Meaning : Type 0 where
  pub total : ℕ
  pub grain : ℕ
  pub free : ℕ
  pub regions : List (List (Option ℕ))

-- how many regions may be open, and how many cells a region may have
abbrev pub most_regions : ℕ
most_regions = 32

abbrev pub most_cells : ℕ
most_cells = 32768

-- the cells of a region; none of one that is not open
abbrev pub region_at : Meaning → ℕ → List (Option ℕ)
region_at m r = slice_index_or m.regions r []

abbrev pub room_at : Meaning → ℕ → ℕ
room_at m r = length (region_at m r)

-- what a cell holds; nothing past the room
abbrev pub cell_at : Meaning → ℕ → ℕ → Option ℕ
cell_at m r i = slice_index_or (region_at m r) i None

-- the least multiple of the grain that is no smaller
abbrev pub rounded : ℕ → ℕ → ℕ
rounded g n = (n + (g - 1)) / g * g

-- the cells that regions take
abbrev pub taken : ℕ → List (List (Option ℕ)) → ℕ
taken g [] = 0
taken g (cells ∷ rest) = rounded g (length cells) + taken g rest

-- what holds of the meaning of every store
pub record Sound (m : Meaning) : Type 0 where
  pub grained : 1 ≤ m.grain
  pub few : length m.regions ≤ most_regions
  pub roomy : (r : ℕ) → r < length m.regions → (1 ≤ room_at m r) × (room_at m r ≤ most_cells)
  pub whole : m.free + taken m.grain m.regions ≡ m.total

-- a new store: nothing is taken
abbrev pub fresh : ℕ → ℕ → Meaning
fresh n g = record { total = n; grain = g; free = n; regions = [] }
