-- The rows that nodes and folders have.
use Rattle.std.specs.Prelude.{ℕ, count_by, List, [], ◌∷◌, ◌++◌, map, pos, Some, None, vec_items, Option}
use Rattle.packed.specs.declared.node.Node.{Node}
use Rattle.report.specs.declared.office.Deleted.{Deleted}
use Rattle.report.specs.declared.office.Folder.{Folder}
use Rattle.report.specs.declared.part.Part.{Part}
use Rattle.report.specs.declared.part.Part.TheVariants as part
use Rattle.report.specs.declared.row.Place.{Place}
use Rattle.report.specs.declared.row.Row.{Row}
use Rattle.report.specs.Ages.{age_of, is_kept}
use Rattle.report.specs.Parts.{part_in}

-- an age completes the row of the entry before it
abbrev pub row_at : Place → Option Part → Option Row
row_at s None = None
row_at s (Some part.NoFolder) = None
row_at s (Some (part.Folder id)) = None
row_at s (Some part.NoEntry) = None
row_at s (Some (part.Entry id)) = None
row_at s (Some (part.Age age)) = Some (record { folder = s.folder; entry = s.entry; age = age })

abbrev pub place_after : Place → Option Part → Place
place_after s None = s
place_after s (Some part.NoFolder) = s
place_after s (Some (part.Folder id)) = record { folder = id; entry = s.entry }
place_after s (Some part.NoEntry) = s
place_after s (Some (part.Entry id)) = record { folder = s.folder; entry = id }
place_after s (Some (part.Age age)) = s

abbrev pub ahead : Option Row → List Row → List Row
ahead None rows = rows
ahead (Some row) rows = row ∷ rows

-- the rows of nodes, from a place on
abbrev pub rows_in : Place → List Node → List Row
rows_in s [] = []
rows_in s (n ∷ ns) = ahead (row_at s (part_in n)) (rows_in (place_after s (part_in n)) ns)

abbrev pub nowhere : Place
nowhere = record { folder = pos 0; entry = pos 0 }

-- The rows of an office: each folder's entries in order, each with what its days mean.
abbrev pub row_of : ℕ → Deleted → Row
row_of folder d = record { folder = pos folder; entry = pos d.id; age = age_of d.ago }

abbrev pub rows_of : List Folder → List Row
rows_of [] = []
rows_of (f ∷ fs) = map (row_of f.id) (vec_items f.entries) ++ rows_of fs

-- how many rows are of entries that can be brought back
abbrev pub kept_in : List Row → ℕ
kept_in = count_by (λ row. is_kept row.age)
