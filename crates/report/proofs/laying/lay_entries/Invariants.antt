use Rattle.std.proofs.Common.{◌≡◌, ◌++◌, drop, vec_items}
use Rattle.report.specs.Laid.{entry_nodes}
use Rattle.report.proofs.laying.lay_entries.Given as goal

-- what is laid and what is still to come make the whole
abbrev pub invariant-loop-deleted : goal.invariant-loop-deleted
invariant-loop-deleted l = vec_items l.nodes ++ entry_nodes (drop l.deleted-index l.entries) ≡ vec_items l.initial.nodes ++ entry_nodes l.entries
