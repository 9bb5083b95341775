use Rattle.std.proofs.Common.{◌-◌, length}
use Rattle.table.specs.Held.{rows_of}
use Rattle.table.proofs.order.walk.Walk.+read_branches_read_child.Given as goal

-- each call leaves fewer rows to read
abbrev pub decreases-read_branches : goal.decreases-read_branches
decreases-read_branches l = length (rows_of l.self.now.rows) - l.self.now.end

abbrev pub decreases-read_child : goal.decreases-read_child
decreases-read_child l = length (rows_of l.self.now.rows) - l.self.now.end
