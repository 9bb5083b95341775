use Rattle.table.proofs.Tabling.{table-formed}
use Rattle.table.proofs.table.Table.layout.Goals as goal

pub returns-clause-formed : goal.returns-clause-formed
returns-clause-formed c = table-formed c.args.self.now
