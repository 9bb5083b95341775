use Rattle.std.proofs.Common.{◌*◌, ℕ, refl, ap}
use Rattle.stores.proofs.Pageds.{paged-open}
use Rattle.stores.proofs.paged.PagedStore.open.Goals as goal

pub returns : goal.returns
returns c =
    let q = paged-open c.args.self.now c.open.new.self c.args.room c.open.result c.open.ensures.value c.open.ensures.after in
    record { value = q.0; after = q.1; keeps = (ap (λ (n : ℕ). n * 64) q.2, refl) }
