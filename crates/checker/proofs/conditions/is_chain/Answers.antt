use Rattle.std.proofs.Common.{arith, rules}
use Rattle.checker.specs.declared.context.Rule.TheVariants as rule
use Rattle.checker.proofs.Arguing.{chained-part}
use Rattle.checker.proofs.conditions.is_chain.Goals as goal

pub returns : goal.returns
returns c =
    let e = chained-part c.args.cx.now (rule.Past c.args.l c.args.form.now.fields.integers) c.args.l c.args.variables.now c.args.form.now.fields.integers c.args.form.now.fields.subtrees c.from-first.result c.from.result c.last_of_chain-last.result c.from-first.ensures c.from.ensures (omega arith) c.last_of_chain-last.ensures.value in
    record { value = search rules }
