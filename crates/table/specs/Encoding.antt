-- The sixteen bytes of a row.
use Rattle.std.specs.Prelude.{ℕ, zero, suc, ◌<◌, List, [], ◌∷◌, FitsSigned}
use Rattle.std.specs.Int.{w64}
use Rattle.packed.specs.Trees.{low, eight}
use Rattle.table.specs.declared.row.Row.{Row}
use Rattle.table.specs.declared.row.Row.TheVariants as row

-- the kind, then the operands: words and integers low byte first
abbrev pub spelled : Row → List ℕ
spelled (row.Variable x) = 0 ∷ x ∷ []
spelled (row.Number value) = 1 ∷ eight value
spelled (row.Sum x y) = 2 ∷ x ∷ y ∷ []
spelled (row.Difference x y) = 3 ∷ x ∷ y ∷ []
spelled (row.Region r room) = 4 ∷ r ∷ low 2 room
spelled (row.Start l r) = 5 ∷ l ∷ r ∷ []
spelled (row.Past l m k) = 6 ∷ l ∷ m ∷ k ∷ []
spelled (row.After l m t) = 7 ∷ l ∷ m ∷ t ∷ []
spelled (row.Construct form l v0 v1 v2 v3 v4 v5 v6 v7) = 8 ∷ form ∷ l ∷ v0 ∷ v1 ∷ v2 ∷ v3 ∷ v4 ∷ v5 ∷ v6 ∷ v7 ∷ []
spelled (row.Let x kind l body) = 9 ∷ x ∷ kind ∷ l ∷ low 2 body
spelled (row.Test x y other) = 10 ∷ x ∷ y ∷ low 2 other
spelled (row.Call f l v0 v1 v2 v3) = 11 ∷ f ∷ l ∷ v0 ∷ v1 ∷ v2 ∷ v3 ∷ []
spelled (row.Case x) = 12 ∷ x ∷ []
spelled (row.Branch form x0 l0 next) = 13 ∷ form ∷ x0 ∷ l0 ∷ low 2 next

-- n bytes: these, and 0 behind them
abbrev pub padded : ℕ → List ℕ → List ℕ
padded zero bs = []
padded (suc n) [] = 0 ∷ padded n []
padded (suc n) (b ∷ bs) = b ∷ padded n bs

abbrev pub row_bytes : Row → List ℕ
row_bytes r = padded 16 (spelled r)

-- a row as the code holds it: words of 16 bits and integers of 64
abbrev pub Held : Row → Type 0
Held (row.Number value) = FitsSigned w64 value
Held (row.Region r room) = room < 65536
Held (row.Let x kind l body) = body < 65536
Held (row.Test x y other) = other < 65536
Held (row.Branch form x0 l0 next) = next < 65536
Held _ = Unit {0}
