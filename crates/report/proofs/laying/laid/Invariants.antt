use Rattle.std.proofs.Common.{◌≡◌, ◌++◌, drop, vec_items}
use Rattle.report.specs.Laid.{folder_nodes}
use Rattle.report.proofs.laying.laid.Given as goal

abbrev pub invariant-loop-folder : goal.invariant-loop-folder
invariant-loop-folder l = vec_items l.nodes ++ folder_nodes (drop l.folder-index l.folders) ≡ folder_nodes l.folders
