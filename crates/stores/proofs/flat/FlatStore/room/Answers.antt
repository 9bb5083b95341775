use Rattle.std.proofs.Common.{◌∙◌}
use Rattle.stores.proofs.Meant.{room-told}
use Rattle.stores.proofs.flat.FlatStore.room.Goals as goal

pub returns : goal.returns
returns c = record { value = c.room.ensures.value ∙ room-told c.args.self.now.regions _ c.args.region }
