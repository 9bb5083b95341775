-- How the paged store lays regions out: a grain is a slot.
use Rattle.std.specs.Prelude.{ℕ, ◌+◌, ◌/◌, ◌%◌, List, Option}
use Rattle.cells.specs.Meaning.{Meaning}
use Rattle.stores.specs.declared.regions.Region.{Region}
use Rattle.stores.specs.declared.regions.Regions.{Regions}
use Rattle.stores.specs.Regions.{first_of}
use Rattle.stores.specs.Opening.{meaning_in}
use Rattle.stores.specs.Slots.{page_of, page_cell}

abbrev pub paged_cell : List ℕ → List (Option ℕ) → List Region → ℕ → ℕ → Option ℕ
paged_cell cells slots list k i = page_cell cells (page_of slots (first_of list k + i / 64)) (i % 64)

abbrev pub paged_meaning : List ℕ → List (Option ℕ) → Regions → Meaning
paged_meaning cells slots regions = meaning_in regions (paged_cell cells slots regions.list)
