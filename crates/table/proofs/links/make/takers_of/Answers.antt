use Rattle.std.proofs.Common.{refl, arith}
use Rattle.table.specs.Held.{rows_of}
use Rattle.table.specs.Links.{taker_of}
use Rattle.table.proofs.Linking.{takers-none, links-all}
use Rattle.table.proofs.links.make.takers_of.Goals as goal

pub loop-n-init : goal.loop-n-init
loop-n-init c = takers-none (rows_of c.args.rows.now) 1024 refl

pub returns-clause-all : goal.returns-clause-all
returns-clause-all c =
    let rows = rows_of c.args.rows.now in
    let counted = c.len-n-end.ensures.value in
    let inv = c.loop-n.invariant in
    links-all rows c.loop-n.takers (taker_of rows) (λ k h. inv.known k (omega arith)) inv.behind
