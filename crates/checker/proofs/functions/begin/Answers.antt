use Rattle.std.proofs.Common.{arith}
use Rattle.checker.proofs.Bodying.{entered-turn}
use Rattle.checker.proofs.functions.begin.Goals as goal

pub loop-j-preserved : goal.loop-j-preserved
loop-j-preserved c = entered-turn c.loop-j.cx _ _ c.args.function.now.kinds c.loop-j.j c.args.function.now.parameters c.number_at.result (omega arith) c.take.ensures.after (cc) c.loop-j.invariant
