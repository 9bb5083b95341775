use Rattle.std.proofs.Common.{◌+◌, ◌-◌, ◌*◌, length}
use Rattle.table.specs.Held.{rows_of}
use Rattle.checker.proofs.+descend.Given as goal

-- Rows left, and at one row who calls whom.

abbrev pub decreases-descent::Descent::branch_at : goal.decreases-descent::Descent::branch_at
decreases-descent::Descent::branch_at l = 4 * (length (rows_of l.self.now.rows) - l.b) + 1

abbrev pub decreases-descent::Descent::term : goal.decreases-descent::Descent::term
decreases-descent::Descent::term l = 4 * (length (rows_of l.self.now.rows) - l.at) + 3

abbrev pub decreases-descent::RowAt::after_row : goal.decreases-descent::RowAt::after_row
decreases-descent::RowAt::after_row l = 4 * (length (rows_of l.self.now.program.now.rows) - l.self.now.at) + 1

abbrev pub decreases-descent::RowAt::branch : goal.decreases-descent::RowAt::branch
decreases-descent::RowAt::branch l = 4 * (length (rows_of l.self.now.program.now.rows) - l.self.now.at) + 0

abbrev pub decreases-descent::RowAt::case_row : goal.decreases-descent::RowAt::case_row
decreases-descent::RowAt::case_row l = 4 * (length (rows_of l.self.now.program.now.rows) - l.self.now.at) + 1

abbrev pub decreases-descent::RowAt::later : goal.decreases-descent::RowAt::later
decreases-descent::RowAt::later l = 4 * (length (rows_of l.self.now.program.now.rows) - l.self.now.at) + 0

abbrev pub decreases-descent::RowAt::let_row : goal.decreases-descent::RowAt::let_row
decreases-descent::RowAt::let_row l = 4 * (length (rows_of l.self.now.program.now.rows) - l.self.now.at) + 1

abbrev pub decreases-descent::RowAt::locate : goal.decreases-descent::RowAt::locate
decreases-descent::RowAt::locate l = 4 * (length (rows_of l.self.now.program.now.rows) - l.self.now.at) + 0

abbrev pub decreases-descent::RowAt::past_row : goal.decreases-descent::RowAt::past_row
decreases-descent::RowAt::past_row l = 4 * (length (rows_of l.self.now.program.now.rows) - l.self.now.at) + 1

abbrev pub decreases-descent::RowAt::region_row : goal.decreases-descent::RowAt::region_row
decreases-descent::RowAt::region_row l = 4 * (length (rows_of l.self.now.program.now.rows) - l.self.now.at) + 1

abbrev pub decreases-descent::RowAt::row : goal.decreases-descent::RowAt::row
decreases-descent::RowAt::row l = 4 * (length (rows_of l.self.now.program.now.rows) - l.self.now.at) + 2

abbrev pub decreases-descent::RowAt::start_row : goal.decreases-descent::RowAt::start_row
decreases-descent::RowAt::start_row l = 4 * (length (rows_of l.self.now.program.now.rows) - l.self.now.at) + 1

abbrev pub decreases-descent::RowAt::test_row : goal.decreases-descent::RowAt::test_row
decreases-descent::RowAt::test_row l = 4 * (length (rows_of l.self.now.program.now.rows) - l.self.now.at) + 1

abbrev pub decreases-rows::branches::Case::behind : goal.decreases-rows::branches::Case::behind
decreases-rows::branches::Case::behind l = 4 * (length (rows_of l.self.now.row.program.now.rows) - l.b) + 0

abbrev pub decreases-rows::branches::Case::follow : goal.decreases-rows::branches::Case::follow
decreases-rows::branches::Case::follow l = 4 * (length (rows_of l.self.now.row.program.now.rows) - l.b) + 2
