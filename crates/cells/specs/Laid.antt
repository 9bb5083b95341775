-- Regions given by what stands at each cell: how a store's layout is told as a meaning.
use Rattle.std.specs.Prelude.{ℕ, List, map, Option}
use Rattle.std.specs.List.{range_with_len}

abbrev pub laid_region : (ℕ → Option ℕ) → ℕ → List (Option ℕ)
laid_region look n = map look (range_with_len 0 n)

-- `count` regions; region k has `rooms k` cells, and `look k i` stands at cell i
abbrev pub laid : ℕ → (ℕ → ℕ) → (ℕ → ℕ → Option ℕ) → List (List (Option ℕ))
laid count rooms look = map (λ k. laid_region (look k) (rooms k)) (range_with_len 0 count)
