-- How the flat store lays regions out: one behind another, from the first number on, so a grain is one number.
use Rattle.std.specs.Prelude.{ℕ, ◌+◌, List, Option, slice_index}
use Rattle.cells.specs.Meaning.{Meaning}
use Rattle.stores.specs.declared.regions.Region.{Region}
use Rattle.stores.specs.declared.regions.Regions.{Regions}
use Rattle.stores.specs.Cells.{content}
use Rattle.stores.specs.Regions.{first_of}
use Rattle.stores.specs.Opening.{meaning_in}

abbrev pub flat_cell : List ℕ → List Region → ℕ → ℕ → Option ℕ
flat_cell cells list k i = content (slice_index cells (first_of list k + i))

abbrev pub flat_meaning : List ℕ → Regions → Meaning
flat_meaning cells regions = meaning_in regions (flat_cell cells regions.list)
