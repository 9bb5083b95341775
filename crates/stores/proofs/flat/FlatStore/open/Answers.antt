use Rattle.std.proofs.Common.{refl}
use Rattle.stores.proofs.Flats.{flat-open}
use Rattle.stores.proofs.flat.FlatStore.open.Goals as goal

pub returns : goal.returns
returns c =
    let q = flat-open c.args.self.now c.open.new.self c.args.room c.open.result c.open.ensures.value c.open.ensures.after in
    record { value = q.0; after = q.1; keeps = (q.2, refl) }
