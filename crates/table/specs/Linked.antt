-- What links hold.
use Rattle.std.specs.Prelude.{ℕ, List, None, Option, slice_index_or}
use Rattle.table.specs.declared.links.Links.{Links}

-- the row that link n names; past the last link there is none
abbrev pub link_in : List (Option ℕ) → ℕ → Option ℕ
link_in links n = slice_index_or links n None

abbrev pub taker_in : Links → ℕ → Option ℕ
taker_in s n = link_in s.takers n

abbrev pub case_in : Links → ℕ → Option ℕ
case_in s n = link_in s.cases n
