use Rattle.std.proofs.Common.{sym, ◌∙◌, arith}
use Rattle.table.specs.Order.{bodies}
use Rattle.table.specs.Walks.{left}
use Rattle.table.proofs.Walking.{bodies-all, left-over}
use Rattle.table.proofs.order.walk.Walk.read.Goals as goal

pub returns-then-self-len : goal.returns-then-self-len
returns-then-self-len c =
    let w = c.loop-first.self in
    record {
      goes =
          bodies-all w c.args.firsts.now c.loop-first.first-index (left c.args.self.now (bodies c.args.firsts.now)) c.loop-first-test.false c.loop-first.invariant
          ∙ left-over w (omega arith)
          ∙ sym c.broken.ensures.value;
    }
