-- Sixteen-bit numbers as cells, and what a store leaves of the numbers that were lent to it.
use Rattle.std.specs.Prelude.{◌≡◌, ℕ, ◌<◌, ◌≤◌, cond, true, List, drop, is_some, Some, None, Option, Result, MatchResult, nat_lt, slice_index, slice_set}
use Rattle.std.proofs.Common.{◌∙◌}
use Rattle.packed.specs.declared.fault.Fault.{Fault}
use Rattle.packed.specs.declared.fault.Reason.TheVariants as reason
use Rattle.packed.specs.Packing.{refusal}

-- a number below 256 is a byte; 256 stands for an empty cell, and no store writes another
abbrev pub content : ℕ → Option ℕ
content c = cond (nat_lt c 256) (Some c) None

-- all cells from one number on, before another, are empty
abbrev pub Clear : List ℕ → ℕ → ℕ → Type 0
Clear cells from to = (p : ℕ) → from ≤ p → p < to → slice_index cells p ≡ 256

-- a byte is put into a cell that is empty; where one holds a byte, that is refused, and no number changes
abbrev pub Filling : List ℕ → ℕ → ℕ → Result (Unit {0}) Fault → List ℕ → Type 0
Filling cells at b r cells' = MatchResult r
    (λ _. (content (slice_index cells at) ≡ None) × (cells' ≡ slice_set cells at b))
    (λ f. (is_some (content (slice_index cells at)) ≡ true) × (f ≡ refusal reason.Filled 0) × (cells' ≡ cells))

-- the store is as large as it was, and the numbers behind its last cell are as they were
abbrev pub Kept : ℕ → List ℕ → ℕ → List ℕ → Type 0
Kept total cells total' cells' = (total' ≡ total) × (drop total cells' ≡ drop total cells)

pub kept_joins : (n n' n'' : ℕ) (a b c : List ℕ) → Kept n a n' b → Kept n' b n'' c → Kept n a n'' c
kept_joins n n' n'' a b c p q = (q.0 ∙ p.0, (rw p.0 at q.1) ∙ p.1)
