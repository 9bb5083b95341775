use Rattle.std.proofs.Common.{refl, arith}
use Rattle.stores.proofs.Slots.{none-at, pages-none}
use Rattle.stores.proofs.paged.Paged.new.Goals as goal

pub invariant_of-result : goal.invariant_of-result
invariant_of-result c =
    let grains = c.new.ensures.grains in
    record {
      grained = c.new.ensures.grain;
      sized = refl;
      whole = omega arith;
      loose = λ j h. none-at 1024 j;
      low = λ j p h. let n = none-at 1024 j in cc;
      once = λ i j p a b. let n = none-at 1024 i in cc;
      counted = pages-none 1024;
      clear = λ p a b. c.clear.ensures.clear p (omega arith) (omega arith);
    }
