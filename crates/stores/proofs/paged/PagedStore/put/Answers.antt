use Rattle.std.proofs.Common.{◌≡◌, ℕ, ◌+◌, ◌*◌, ◌/◌, Ok, Err, refl, ap, ◌∙◌, arith}
use Rattle.std.proofs.lemmas.Result.{err_from_is_err_and}
use Rattle.stores.specs.PagedLayout.{paged_cell}
use Rattle.cells.specs.Meaning.{Meaning}
use Rattle.cells.specs.Calls.{answer, put_refusal, after_put}
use Rattle.stores.specs.declared.regions.Regions.{Regions}
use Rattle.stores.specs.Cells.{kept_joins}
use Rattle.stores.specs.Opening.{first_in, outside}
use Rattle.stores.proofs.Contents.{kept_same, fill-kept}
use Rattle.stores.proofs.Meant.{put-outside}
use Rattle.stores.proofs.Pageds.{m, paged-reach, paged-fill}
use Rattle.stores.proofs.paged.PagedStore.put.Goals as goal

pub returns-in_err-slot : goal.returns-in_err-slot
returns-in_err-slot c =
    let s = c.args.self.now in
    let p = err_from_is_err_and c.from_residual.result c.from_residual.ensures.1 in
    let q = put-outside s.regions (paged_cell s.cells.now s.slots s.regions.list) c.args.region c.args.cell c.args.byte _ _ c.in_err-slot.ensures.value in
    record { value = p.1 ∙ ap Err p.2 ∙ q.0; after = q.1; keeps = (refl, refl) }

-- the store after the slot's page is asked for has the same regions
there-still : {slot : ℕ} (s t : Regions) (r i : ℕ) → t ≡ s → Ok slot ≡ answer (outside s r i) (first_in s r + i / 64) → Ok slot ≡ answer (outside t r i) (first_in t r + i / 64)
there-still s t r i same e = rw same e

pub fill-requires : goal.fill-requires
fill-requires c =
    let t = c.page-page.new.self in
    let e = there-still c.args.self.now.regions t.regions c.args.region c.args.cell c.page-page.ensures.rest.0 c.in_ok-slot.ensures.value in
    rw c.within.ensures (paged-reach t c.args.region c.args.cell _ e _ c.page-page.ensures.value).2

pub returns : goal.returns
returns c =
    let r = c.args.region in
    let i = c.args.cell in
    let s = c.args.self.now in
    let t = c.page-page.new.self in
    let e = there-still s.regions t.regions r i c.page-page.ensures.rest.0 c.in_ok-slot.ensures.value in
    let same : m t ≡ m s = c.page-page.ensures.same in
    let fill = rw c.within.ensures at c.fill.ensures.value in
    let w = paged-reach t r i _ e _ c.page-page.ensures.value in
    let q = paged-fill t r i _ e _ c.page-page.ensures.value c.args.byte _ _ (omega arith) fill in
    let kept = kept_same s.regions.grains t.regions.grains s.cells.now t.cells.now (ap (λ (x : Regions). x.grains) c.page-page.ensures.rest.0) c.page-page.ensures.rest.1 in
    record {
      value = q.0 ∙ ap (λ (x : Meaning). answer {A = Unit {0}} (put_refusal x r i) tt) same;
      after = q.1 ∙ ap (λ (x : Meaning). after_put x r i c.args.byte) same;
      keeps = kept_joins (s.regions.grains * 64) (t.regions.grains * 64) (t.regions.grains * 64) s.cells.now t.cells.now _ kept (fill-kept t.cells.now _ _ _ _ (t.regions.grains * 64) fill w.1);
    }
