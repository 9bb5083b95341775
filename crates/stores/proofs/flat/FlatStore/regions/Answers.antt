use Rattle.std.proofs.Common.{sym, ◌∙◌}
use Rattle.stores.proofs.Meant.{count-is}
use Rattle.stores.proofs.flat.FlatStore.regions.Goals as goal

pub returns : goal.returns
returns c = record { value = c.count.ensures.value ∙ sym (count-is c.args.self.now.regions _) }
