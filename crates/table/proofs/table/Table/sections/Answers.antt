use Rattle.table.proofs.Tabling.{table-formed}
use Rattle.table.proofs.table.Table.sections.Goals as goal

pub invariant_of-result : goal.invariant_of-result
invariant_of-result c = record { laid = (table-formed c.args.self.now).laid }
