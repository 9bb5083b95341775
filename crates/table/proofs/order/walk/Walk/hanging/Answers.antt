use Rattle.std.proofs.Common.{◌≡◌, ℕ, ◌++◌, Option, None, Some, refl, sym, ap, ◌∙◌}
use Rattle.std.specs.Option.{ok_or}
use Rattle.packed.specs.Forms.{either}
use Rattle.table.specs.declared.order.hanging.Hanging.{Hanging}
use Rattle.table.specs.Walks.{behind, hung, left, stepped}
use Rattle.table.proofs.Walking.{child-met}
use Rattle.table.proofs.order.walk.Walk.hanging.Goals as goal

goes_behind : {A : Type 0} → (h : Option A) (m : ℕ) (more : A → Option ℕ) → either h (Some m) more ≡ behind (ok_or h m) more
goes_behind None m more = refl
goes_behind (Some x) m more = refl

pub returns-clause-goes : goal.returns-clause-goes
returns-clause-goes c due =
    let w = c.args.self.now in
    let h = c.and_then-on.result in
    let more : Hanging → Option ℕ = λ g. left (stepped w) (hung w.end g ++ due) in
    child-met w c.get.result h c.get.ensures.value c.and_then-on.ensures due
    ∙ ap (λ l. either h l more) (sym c.broken.ensures.value)
    ∙ goes_behind h c.broken.result more
    ∙ ap (λ r. behind r more) (sym c.ok_or.ensures.value)
