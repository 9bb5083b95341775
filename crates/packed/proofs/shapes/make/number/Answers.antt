-- Before each constructor the loop is at a type that has one still to come.
use Rattle.std.proofs.Common.{[], get_or, ap, ◌∙◌, arith}
use Rattle.packed.specs.declared.constructor.Fields.{Fields}
use Rattle.packed.proofs.Numbers.{Ready, alike, moved, ready, turned, ended}
use Rattle.packed.proofs.shapes.make.number.Goals as goal
use Rattle.packed.proofs.shapes.make.number.Goals.{then-left-eq0, else-left-eq0}

-- what stands in a read outside of the list
abbrev blank : Fields
blank = record { integers = 0; subtrees = 0; types = [] }

pub overflow_sub-left : goal.overflow_sub-left
overflow_sub-left c =
    let at : Ready c.args.sizes.now c.args.fields.now c.if-left-eq0.of c.if-left-eq0.left c.loop-i.i c.loop-i.constructors =
    elim c.if-left-eq0.branch [
      | then-left-eq0 w ↦ alike w.of-is (w.left-is ∙ ap (λ n. get_or c.args.sizes.now n 0) w.from.ensures) (moved _ _ _ _ _ _ c.loop-i.invariant w.if-left-eq0.true c.loop-i-test.true c.requires.sized)
      | else-left-eq0 w ↦ alike w.of-is w.left-is (ready _ _ _ _ _ _ c.loop-i.invariant w.if-left-eq0.false)
    ] in
    at.some

pub loop-i-preserved : goal.loop-i-preserved
loop-i-preserved c =
    let at : Ready c.args.sizes.now c.args.fields.now c.if-left-eq0.of c.if-left-eq0.left c.loop-i.i c.loop-i.constructors =
    elim c.if-left-eq0.branch [
      | then-left-eq0 w ↦ alike w.of-is (w.left-is ∙ ap (λ n. get_or c.args.sizes.now n 0) w.from.ensures) (moved _ _ _ _ _ _ c.loop-i.invariant w.if-left-eq0.true c.loop-i-test.true c.requires.sized)
      | else-left-eq0 w ↦ alike w.of-is w.left-is (ready _ _ _ _ _ _ c.loop-i.invariant w.if-left-eq0.false)
    ] in
    turned _ _ _ _ _ _ at.state blank at.some c.loop-i-test.true c.requires.most

pub returns-clause-filled : goal.returns-clause-filled
returns-clause-filled c = ended _ _ _ _ _ _ c.loop-i.invariant (omega arith)
