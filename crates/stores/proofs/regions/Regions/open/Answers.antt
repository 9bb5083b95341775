use Rattle.std.proofs.Common.{◌∙◌, arith}
use Rattle.std.proofs.lemmas.List.{length-set}
use Rattle.packed.specs.declared.fault.Reason.TheVariants as reason
use Rattle.cells.proofs.Refusing.{answer-refused}
use Rattle.stores.proofs.Ordered.{in-order-opened}
use Rattle.stores.proofs.Meant.{shut-since}
use Rattle.stores.proofs.regions.Regions.open.Goals as goal

pub returns-then-room-eq0-clause-value : goal.returns-then-room-eq0-clause-value
returns-then-room-eq0-clause-value c =
    let s = c.args.self.now in
    answer-refused _ _ reason.OpenRefused _ (shut-since s c.args.room _ _ c.requires c.free-free.ensures.value c.then-room-eq0.either) c.refused.ensures.value

pub invariant_of-self : goal.invariant_of-self
invariant_of-self c =
    let s = c.args.self.now in
    record {
      sized = length-set s.list s.count _ ∙ s.sized;
      in_order = rw c.requires (in-order-opened s.list s.count s.grain s.grains s.taken s.in_order c.args.room s.sized (omega arith) (omega arith) (omega arith) (let w = s.in_order.within in omega arith));
    }
