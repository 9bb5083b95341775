use Rattle.std.proofs.Common.{◌∙◌}
use Rattle.table.proofs.Rowing.{rows-get}
use Rattle.table.proofs.rows.Rows.get.Goals as goal

pub returns : goal.returns
returns c = let s = c.args.self.now.records in record { value = c.get.ensures.value ∙ rows-get s.count s.bytes.now c.args.n c.args.self.now.whole }
