use Rattle.localtool.proofs.Called.{call-more, call-all}
use Rattle.localtool.proofs.calling.answers.Goals as goal

pub loop-call-preserved : goal.loop-call-preserved
loop-call-preserved g c = call-more _ _ _ _ _ _ _ _ _ c.loop-call-test.true c.make-one.ensures.value c.make-one.ensures.after c.in_ok-push.ensures.items c.loop-call.invariant

pub returns : goal.returns
returns g c = record { value = call-all _ _ _ _ _ c.loop-call-test.false c.loop-call.invariant }
