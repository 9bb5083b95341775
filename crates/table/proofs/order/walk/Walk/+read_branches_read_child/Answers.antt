use Rattle.std.proofs.Common.{◌∷◌, ◌++◌, ap, ◌∙◌}
use Rattle.table.specs.Order.{child}
use Rattle.table.specs.Walks.{hung, left, stepped, trailing}
use Rattle.table.proofs.Walking.{children-go, branches-go}
use Rattle.table.proofs.order.walk.Walk.+read_branches_read_child.Goals as goal

pub read_branches-returns-clause-goes : goal.read_branches-returns-clause-goes
read_branches-returns-clause-goes t c =
    let w = c.args.self.now in
    branches-go w c.read_child.new.self c.test_name.new.self c.read_branches.new.self c.in-Some.start c.read_branches.result
    c.test_name.ensures.after
    (λ due. c.in_ok-next.ensures.goes due ∙ ap (λ h. left (stepped w) (child ∷ (trailing w.end h ++ due))) c.in-Some.is)
    c.in_ok-read_child.ensures.goes c.read_branches.ensures.goes

pub read_child-returns-in_ok-read_child-in-Children-clause-goes : goal.read_child-returns-in_ok-read_child-in-Children-clause-goes
read_child-returns-in_ok-read_child-in-Children-clause-goes t c =
    let w = c.args.self.now in
    children-go w c.read_child-in-Children.new.self c.test_name.new.self c.read_child-in-Children-2.new.self c.in-Children.start c.read_child-in-Children-2.result
    c.test_name.ensures.after
    (λ due. c.in_ok-hanging.ensures.goes due ∙ ap (λ h. left (stepped w) (hung w.end h ++ due)) c.in-Children.is)
    c.in_ok-read_child-in-Children.ensures.goes c.read_child-in-Children-2.ensures.goes
