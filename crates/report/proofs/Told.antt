-- What an office's nodes say is what the office has.
use Rattle.std.proofs.Common.{◌≡◌, ℕ, List, [], ◌∷◌, ◌++◌, map, ℤ, pos, Some, vec_items, refl, arith}
use Rattle.packed.specs.declared.node.Node.{Node}
use Rattle.report.specs.declared.age.Age.{Age}
use Rattle.report.specs.declared.age.Age.TheVariants as age
use Rattle.report.specs.declared.office.Deleted.{Deleted}
use Rattle.report.specs.declared.office.Folder.{Folder}
use Rattle.report.specs.declared.part.Part.TheVariants as part
use Rattle.report.specs.declared.row.Place.{Place}
use Rattle.report.specs.declared.row.Row.{Row}
use Rattle.report.specs.Parts.{node_for, part_in}
use Rattle.report.specs.Laid.{entry_nodes, folder_nodes}
use Rattle.report.specs.Rows.{rows_in, row_of, rows_of}

age-told : (a : Age) → part_in (node_for (part.Age a)) ≡ Some (part.Age a)
age-told (age.Kept ago left) = refl
age-told (age.Gone since) = refl

abbrev at_place : ℤ → ℤ → Place
at_place folder entry = record { folder = folder; entry = entry }

-- the entries of a folder, in front of nodes that have these rows wherever one comes from
entries-told : (folder : ℕ) (e : ℤ) (ds : List Deleted) (rest : List Node) (rows : List Row) → ((s : Place) → rows_in s rest ≡ rows) → rows_in (at_place (pos folder) e) (entry_nodes ds ++ rest) ≡ map (row_of folder) ds ++ rows
entries-told folder e [] rest rows later = later (at_place (pos folder) e)
entries-told folder e (d ∷ ds) rest rows later = grind (arith, age-told, entries-told folder (pos d.id) ds rest rows later)

pub folders-told : (s : Place) (fs : List Folder) → rows_in s (folder_nodes fs) ≡ rows_of fs
folders-told s [] = refl
folders-told s (f ∷ fs) = entries-told f.id s.entry (vec_items f.entries) (folder_nodes fs) (rows_of fs) (λ x. folders-told x fs)
