-- An office's folders as nodes in descent order.
use Rattle.std.specs.Prelude.{List, [], ◌∷◌, ◌++◌, pos, vec_items}
use Rattle.packed.specs.declared.node.Node.{Node}
use Rattle.report.specs.declared.office.Deleted.{Deleted}
use Rattle.report.specs.declared.office.Folder.{Folder}
use Rattle.report.specs.declared.part.Part.TheVariants as part
use Rattle.report.specs.Ages.{age_of}
use Rattle.report.specs.Parts.{node_for}

-- a list of entries: each entry, its age, and the rest
abbrev pub entry_nodes : List Deleted → List Node
entry_nodes [] = node_for part.NoEntry ∷ []
entry_nodes (d ∷ ds) = node_for (part.Entry (pos d.id)) ∷ node_for (part.Age (age_of d.ago)) ∷ entry_nodes ds

-- a list of folders: each folder, its entries, and the next
abbrev pub folder_nodes : List Folder → List Node
folder_nodes [] = node_for part.NoFolder ∷ []
folder_nodes (f ∷ fs) = node_for (part.Folder (pos f.id)) ∷ entry_nodes (vec_items f.entries) ++ folder_nodes fs
