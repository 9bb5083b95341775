use Rattle.std.proofs.Common.{◌∙◌, arith}
use Rattle.table.proofs.Walking.{body-here}
use Rattle.table.proofs.order.walk.Walk.read_body.Goals as goal

pub returns-clause-goes : goal.returns-clause-goes
returns-clause-goes c due = body-here c.args.self.now c.args.first (omega arith) due ∙ c.read_child.ensures.goes due
