use Rattle.std.proofs.Common.{Err, refl, ap, ◌∙◌}
use Rattle.std.proofs.lemmas.Result.{err_from_is_err_and}
use Rattle.stores.proofs.Contents.{none-from-err, some-from-ok}
use Rattle.stores.proofs.Meant.{get-outside, get-told}
use Rattle.stores.proofs.Pageds.{paged-there, look-none, paged-look, paged-reach}
use Rattle.stores.proofs.paged.PagedStore.get.Goals as goal

pub returns-in_err-slot : goal.returns-in_err-slot
returns-in_err-slot c =
    let p = err_from_is_err_and c.from_residual.result c.from_residual.ensures.1 in
    record { value = p.1 ∙ ap Err p.2 ∙ get-outside c.args.self.now.regions _ c.args.region c.args.cell _ _ _ c.in_err-slot.ensures.value }

pub returns-in_err-page : goal.returns-in_err-page
returns-in_err-page c =
    let s = c.args.self.now in
    let e = c.in_ok-slot.ensures.value in
    let p = err_from_is_err_and c.from_residual-in_err-page.result c.from_residual-in_err-page.ensures.1 in
    let w = none-from-err _ _ _ c.in_err-page.ensures.value in
    record { value = get-told s.regions _ c.args.region c.args.cell (paged-there s c.args.region c.args.cell _ e) (p.1 ∙ ap Err (p.2 ∙ w.1 ∙ c.refused.ensures.value) ∙ rw (look-none s c.args.region c.args.cell _ e w.0) refl) }

pub filled-requires : goal.filled-requires
filled-requires c =
    rw c.within.ensures (paged-reach c.args.self.now c.args.region c.args.cell _ c.in_ok-slot.ensures.value _ (some-from-ok _ _ _ c.in_ok-page.ensures.value)).2

pub returns : goal.returns
returns c =
    let s = c.args.self.now in
    let e = c.in_ok-slot.ensures.value in
    let look = paged-look s c.args.region c.args.cell _ e _ (some-from-ok _ _ _ c.in_ok-page.ensures.value) in
    record { value = get-told s.regions _ c.args.region c.args.cell (paged-there s c.args.region c.args.cell _ e) (c.filled.ensures.value ∙ rw (c.within.ensures, look) refl) }
