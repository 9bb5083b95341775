use Rattle.std.proofs.Common.{arith}
use Rattle.checker.proofs.Naming.{names-turn}
use Rattle.checker.proofs.names.enter_names.Goals as goal

pub loop-i-preserved : goal.loop-i-preserved
loop-i-preserved g c =
    λ v says. names-turn c.loop-i.table _ _ c.args.first v c.loop-i.i c.args.count c.entry.result (omega arith) c.enter.ensures.after (says c.loop-i.i c.entry.result c.loop-i-test.true c.entry.ensures) (c.loop-i.invariant v says)
