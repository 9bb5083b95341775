use Rattle.std.proofs.Common.{refl, ◌∙◌}
use Rattle.checker.proofs.Alls.{any_tree-is}
use Rattle.checker.proofs.context.Context.has_tree.Goals as goal

pub returns : goal.returns
returns c = record { value = c.contains.ensures.value ∙ any_tree-is _ c.args.t c.args.m refl refl (λ s l. refl) c.args.self.now.variables }
