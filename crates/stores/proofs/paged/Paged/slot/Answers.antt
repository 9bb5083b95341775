use Rattle.std.proofs.Common.{arith}
use Rattle.cells.proofs.Refusing.{ok-tells, ok-gives}
use Rattle.stores.proofs.Pageds.{slot-low}
use Rattle.stores.proofs.paged.Paged.slot.Goals as goal

pub overflow_add-result : goal.overflow_add-result
overflow_add-result c =
    let e = c.in_ok-first.ensures.value in
    let f = ok-gives _ _ _ e in
    let w = slot-low c.args.self.now c.args.region c.args.cell (ok-tells _ _ _ e) in
    omega arith

pub returns-clause-within : goal.returns-clause-within
returns-clause-within c =
    let e = c.in_ok-first.ensures.value in
    let f = ok-gives _ _ _ e in
    let w = slot-low c.args.self.now c.args.region c.args.cell (ok-tells _ _ _ e) in
    (omega arith, omega arith)
