use Rattle.std.proofs.Common.{◌≤◌, None, get_or, sym, ap, ◌∙◌, arith}
use Rattle.std.proofs.lemmas.Bool.Decides.{nat_tests}
use Rattle.table.specs.Held.{rows_of}
use Rattle.table.specs.Links.{bound_end_at}
use Rattle.table.proofs.Linking.{walk-on, walk-falls, walk-ends}
use Rattle.table.proofs.links.make.taker_at.Goals as goal

pub returns-in_err-t : goal.returns-in_err-t
returns-in_err-t c =
    let rows = rows_of c.args.rows.now in
    let short : bound_end_at (rows_of c.args.rows.now) c.loop-t.t ≤ c.args.n = grind (arith, nat_tests) in
    let link = sym (c.requires.known c.loop-t.t c.loop-t.invariant.low) ∙ ap (λ k. get_or c.args.takers.now k None) (sym c.from.ensures) in
    record { value = c.from_residual.ensures ∙ sym (walk-ends rows c.args.n c.loop-t.t c.loop-t.invariant short (link ∙ c.in_err-t.was)) }

pub loop-t-smaller : goal.loop-t-smaller
loop-t-smaller c =
    let rows = rows_of c.args.rows.now in
    let short : bound_end_at (rows_of c.args.rows.now) c.loop-t.t ≤ c.args.n = grind (arith, nat_tests) in
    let link = sym (c.requires.known c.loop-t.t c.loop-t.invariant.low) ∙ ap (λ k. get_or c.args.takers.now k None) (sym c.from.ensures) in
    walk-falls rows c.args.n c.loop-t.t c.loop-t.invariant short c.in_ok-t.t (link ∙ c.in_ok-t.was)

pub loop-t-preserved : goal.loop-t-preserved
loop-t-preserved c =
    let rows = rows_of c.args.rows.now in
    let short : bound_end_at (rows_of c.args.rows.now) c.loop-t.t ≤ c.args.n = grind (arith, nat_tests) in
    let link = sym (c.requires.known c.loop-t.t c.loop-t.invariant.low) ∙ ap (λ k. get_or c.args.takers.now k None) (sym c.from.ensures) in
    walk-on rows c.args.n c.loop-t.t c.loop-t.invariant short c.in_ok-t.t (link ∙ c.in_ok-t.was)
