use Rattle.table.proofs.Tabling.{table-shaped, table-types}
use Rattle.table.proofs.table.Table.shapes.Goals as goal

pub returns-clause-types : goal.returns-clause-types
returns-clause-types c = table-types c.args.self.now

pub returns-clause-forms : goal.returns-clause-forms
returns-clause-forms c = table-shaped c.args.self.now
