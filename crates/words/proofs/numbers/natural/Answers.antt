use Rattle.words.proofs.Numbering.{digits_more}
use Rattle.words.proofs.numbers.natural.Goals as goal

pub loop-c-preserved : goal.loop-c-preserved
loop-c-preserved c = (
  c.in_ok-n.ensures.bound,
  digits_more c.args.limit c.loop-c.n c.in_ok-n.n c.args.text.now c.loop-c.c-index c.loop-c-test.true c.in_ok-n.ensures.value c.loop-c.invariant.1,
)
