use Rattle.std.proofs.Common.{◌+◌, refl, ◌∙◌, arith, rules}
use Rattle.std.proofs.lemmas.Iterator.{YieldsList-from_range}
use Rattle.std.proofs.lemmas.Iterator.Search.{all_from_yields_List}
use borrow.Author.Tests.{tests}
use Rattle.checker.specs.Contexts.{fresh, all_fresh}
use Rattle.checker.proofs.Alls.{all_in-range}
use Rattle.checker.proofs.names.are_fresh.Goals as goal

pub returns : goal.returns
returns g c = record {
  value = all_from_yields_List (fresh c.args.table.now) _ _ _ c.all.ensures.ran (YieldsList-from_range c.args.first (c.args.first + c.args.count) c.args.count (cc) (omega arith)) (λ x b q k. search (rules, tests))
      ∙ all_in-range (fresh c.args.table.now) (λ i. c.args.first + i) (all_fresh c.args.table.now c.args.first) (λ i. omega arith) (λ i. refl) (λ i n. refl) 0 _ c.args.count (omega arith);
}
