use Rattle.std.proofs.Common.{◌+◌, get_or, Some, rules}
use Rattle.checker.specs.declared.context.Rule.TheVariants as rule
use Rattle.checker.specs.declared.kind.Kind.TheVariants as kind
use Rattle.checker.proofs.Naming.{parts-entered}
use Rattle.checker.proofs.context.Context.part.Goals as goal

pub returns : goal.returns
returns c =
    let first = c.enter_names.ensures.after (λ i. Some kind.Integer) (λ i x h k. search rules) in
    let behind = c.enter_names-2.ensures.after (λ j. Some (kind.Tree (get_or c.args.parts.form.now.fields.types j 0) (c.args.parts.l + j))) (λ i x h k. search rules) in
    let trees = c.enter_names-3.ensures.after (λ i. Some (record { region = c.args.parts.home; rule = rule.Free })) (λ i x h k. search rules) in
    let e = parts-entered c.args.parts.form.now c.args.parts.l c.args.parts.x c.args.self.now.variables c.enter_names.new.table c.enter_names-2.new.table (cc first) (cc behind) in
    record { after = cc }
