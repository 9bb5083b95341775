use Rattle.checker.proofs.Checking.{fine-accepted}
use Rattle.checker.proofs.Lawful.{laws}
use Rattle.checker.proofs.Worded.{worded}
use Rattle.checker.proofs.checked.Checked.table.Goals as goal

pub returns-clause-accepted : goal.returns-clause-accepted
returns-clause-accepted c = fine-accepted _ c.args.self.now.fine

pub returns-clause-laws : goal.returns-clause-laws
returns-clause-laws c = laws _

pub returns-clause-worded : goal.returns-clause-worded
returns-clause-worded c = worded _
