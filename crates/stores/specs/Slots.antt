-- The slots of the paged store: each 64 cells of a region have one, and a slot is tied to a page of 64 numbers when a byte is
-- first put there.
use Rattle.std.specs.Prelude.{◌≡◌, ℕ, ◌+◌, ◌*◌, ◌<◌, ◌≤◌, cond, List, [], ◌∷◌, is_some, Some, None, Option, slice_index, slice_index_or}
use Rattle.packed.specs.Forms.{either}
use Rattle.stores.specs.Cells.{content}

-- the page of a slot, if it is tied to one
abbrev pub page_of : List (Option ℕ) → ℕ → Option ℕ
page_of slots j = slice_index_or slots j None

-- what stands in a cell of a slot: without a page its cells are empty
abbrev pub page_cell : List ℕ → Option ℕ → ℕ → Option ℕ
page_cell cells page at = either page None (λ p. content (slice_index cells (p * 64 + at)))

-- how many slots have a page
abbrev pub pages_in : List (Option ℕ) → ℕ
pages_in [] = 0
pages_in (s ∷ ss) = cond (is_some s) 1 0 + pages_in ss

-- slots that no region has are loose
abbrev pub Loose : List (Option ℕ) → ℕ → Type 0
Loose slots used = (j : ℕ) → used ≤ j → page_of slots j ≡ None

-- the pages tied are the first ones, and each is tied to one slot
abbrev pub Low : List (Option ℕ) → ℕ → Type 0
Low slots tied = (j p : ℕ) → page_of slots j ≡ Some p → p < tied

abbrev pub Once : List (Option ℕ) → Type 0
Once slots = (i j p : ℕ) → page_of slots i ≡ Some p → page_of slots j ≡ Some p → i ≡ j
