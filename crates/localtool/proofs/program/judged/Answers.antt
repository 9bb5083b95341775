use Rattle.localtool.proofs.Judging.{judged-right}
use Rattle.localtool.proofs.program.judged.Goals as goal

pub returns : goal.returns
returns c = record { value = judged-right c.check.new.self.table c.args.table.now c.in_ok-check.ensures.value c.in_ok-check.ensures.after }
