use Rattle.std.proofs.Common.{sym, ◌∙◌, arith, rules}
use Rattle.cells.proofs.Copies.{step-refused, step-more, held-is}
use Rattle.cells.proofs.copying.hold.Goals as goal

pub returns-in_err-put-clause-keeps : goal.returns-in_err-put-clause-keeps
returns-in_err-put-clause-keeps g c =
    absurd (step-refused _ _ _ _ c.args.bytes.now _ (sym c.in_ok-number.was ∙ c.open.ensures.value) c.open.ensures.after c.loop-i.invariant.front _ (omega arith) (sym c.in_err-put.was ∙ c.put.ensures.value))

pub loop-i-preserved : goal.loop-i-preserved
loop-i-preserved g c = record {
  front = step-more _ _ _ _ c.args.bytes.now _ (sym c.in_ok-number.was ∙ c.open.ensures.value) c.open.ensures.after c.loop-i.invariant.front _ (omega arith) c.put.ensures.after;
  keeps = search rules;
}

pub returns-clause-after : goal.returns-clause-after
returns-clause-after g c =
    held-is _ _ _ _ c.args.bytes.now _ (sym c.in_ok-number.was ∙ c.open.ensures.value) c.open.ensures.after c.loop-i.invariant.front (omega arith)
