use Rattle.std.proofs.Common.{Err, refl, ap, ◌∙◌}
use Rattle.std.proofs.lemmas.Result.{err_from_is_err_and}
use Rattle.stores.proofs.Meant.{get-outside, get-told}
use Rattle.stores.proofs.Flats.{flat-there, flat-look}
use Rattle.stores.proofs.flat.FlatStore.get.Goals as goal

pub returns-in_err-at : goal.returns-in_err-at
returns-in_err-at c =
    let p = err_from_is_err_and c.from_residual.result c.from_residual.ensures.1 in
    record { value = p.1 ∙ ap Err p.2 ∙ get-outside c.args.self.now.regions _ c.args.region c.args.cell _ _ _ c.in_err-at.ensures.value }

pub returns : goal.returns
returns c =
    let s = c.args.self.now in
    let e = c.in_ok-at.ensures.value in
    record { value = get-told s.regions _ c.args.region c.args.cell (flat-there s c.args.region c.args.cell _ e) (c.filled.ensures.value ∙ rw (flat-look s c.args.region c.args.cell _ e) refl) }
