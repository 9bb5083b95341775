use Rattle.std.proofs.Common.{◌+◌, get_or, refl, ◌∙◌, arith, rules}
use Rattle.std.proofs.lemmas.Iterator.{YieldsList-from_range}
use Rattle.std.proofs.lemmas.Iterator.Search.{all_from_yields_List}
use borrow.Author.Tests.{tests}
use Rattle.checker.specs.Contexts.{at}
use Rattle.checker.specs.Conditions.{has_kind, all_have}
use Rattle.checker.proofs.Alls.{all_in-range}
use Rattle.checker.proofs.context.Context.have_kinds.Goals as goal

pub returns : goal.returns
returns c = record {
  value = all_from_yields_List (λ j. has_kind (at c.args.self.now.variables (get_or c.args.variables.now (c.args.from + j) 0)) (get_or c.args.kinds.now j 0)) _ _ _ c.all.ensures.ran (YieldsList-from_range 0 c.args.count c.args.count (cc) (omega arith)) (λ x b q k. search (rules, tests))
      ∙ all_in-range (λ j. has_kind (at c.args.self.now.variables (get_or c.args.variables.now (c.args.from + j) 0)) (get_or c.args.kinds.now j 0)) (λ i. i) (all_have c.args.self.now c.args.variables.now c.args.from c.args.kinds.now) (λ i. refl) (λ i. refl) (λ i n. refl) 0 0 c.args.count refl;
}
