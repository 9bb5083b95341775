use Rattle.std.proofs.Common.{length, ◌∙◌}
use Rattle.checker.proofs.Arguing.{chained-step}
use Rattle.checker.proofs.context.Context.last_of_chain.Goals as goal

pub returns-in_err-last : goal.returns-in_err-last
returns-in_err-last c = record {
  value = c.from_residual.ensures ∙ chained-step c.args.self.now c.loop-x.due c.loop-x.last c.args.trees.now c.loop-x.x-index (length c.args.trees.now) _ _ c.loop-x-test.true c.loop-x.invariant c.in_err-last.ensures.value;
}

pub loop-x-preserved : goal.loop-x-preserved
loop-x-preserved c = chained-step c.args.self.now c.loop-x.due c.loop-x.last c.args.trees.now c.loop-x.x-index (length c.args.trees.now) _ _ c.loop-x-test.true c.loop-x.invariant c.in_ok-last.ensures.value
