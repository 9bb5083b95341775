use Rattle.std.proofs.Common.{Err, refl, ap, ◌∙◌, arith}
use Rattle.std.proofs.lemmas.Result.{err_from_is_err_and}
use Rattle.stores.specs.FlatLayout.{flat_cell}
use Rattle.stores.proofs.Contents.{fill-clear, fill-length, fill-kept}
use Rattle.stores.proofs.Meant.{put-outside}
use Rattle.stores.proofs.Flats.{flat-fill}
use Rattle.stores.proofs.flat.FlatStore.put.Goals as goal

pub returns-in_err-at : goal.returns-in_err-at
returns-in_err-at c =
    let p = err_from_is_err_and c.from_residual.result c.from_residual.ensures.1 in
    let q = put-outside c.args.self.now.regions (flat_cell c.args.self.now.cells.now c.args.self.now.regions.list) c.args.region c.args.cell c.args.byte _ _ c.in_err-at.ensures.value in
    record { value = p.1 ∙ ap Err p.2 ∙ q.0; after = q.1; keeps = (refl, refl) }

pub invariant_of-self : goal.invariant_of-self
invariant_of-self c =
    let s = c.args.self.now in
    let w = c.in_ok-at.ensures.within in
    let long = fill-length s.cells.now _ _ _ _ c.fill.ensures.value in
    record {
      grained = s.grained;
      whole = rw long s.whole;
      clear = fill-clear s.cells.now _ _ _ _ s.regions.taken s.regions.grains c.fill.ensures.value w.0 s.clear;
    }

pub returns : goal.returns
returns c =
    let s = c.args.self.now in
    let w = c.in_ok-at.ensures.within in let o = s.regions.in_order.within in
    let q = flat-fill s c.args.region c.args.cell _ c.in_ok-at.ensures.value c.args.byte _ _ (omega arith) c.fill.ensures.value in
    record { value = q.0; after = q.1; keeps = fill-kept s.cells.now _ _ _ _ s.regions.grains c.fill.ensures.value (omega arith) }
