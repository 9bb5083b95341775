use Rattle.std.proofs.Common.{◌≡◌, ◌∷◌, ◌++◌, false, Some, sym, ap, ◌∙◌, rules}
use Rattle.packed.specs.Forms.{either}
use Rattle.table.specs.Order.{child, is_branch}
use Rattle.table.specs.Walks.{left, stepped, trailing}
use Rattle.table.proofs.Walking.{branch-goes, branch-off}
use Rattle.table.proofs.order.walk.Walk.next_branch.Goals as goal

pub returns-in-Some-Branch-clause-goes : goal.returns-in-Some-Branch-clause-goes
returns-in-Some-Branch-clause-goes c due =
    let w = c.args.self.now in
    let at = c.in-Some-Branch in
    branch-goes w at.field-0-0 at.field-0-1 at.field-0-2 at.next (sym c.get.ensures.value ∙ at.is ∙ ap Some at.field-0-is) due
    ∙ ap (λ h. left (stepped w) (child ∷ (trailing w.end h ++ due))) (sym c.then_some.ensures)

pub returns-in_default-clause-goes : goal.returns-in_default-clause-goes
returns-in_default-clause-goes c due =
    let off : either c.get.result false is_branch ≡ false = search rules in
    branch-off c.args.self.now c.get.result c.get.ensures.value off due ∙ sym c.broken.ensures.value
