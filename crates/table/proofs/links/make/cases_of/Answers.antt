use Rattle.std.proofs.Common.{ℕ, ◌+◌, ◌<◌, ◌≤◌, List, Option, length, sym, refl, subst, arith}
use Rattle.table.specs.Held.{rows_of}
use Rattle.table.proofs.Linking.{Cases, cases_none, cases-noted, cases-kept}
use Rattle.table.proofs.links.make.cases_of.Goals as goal
use Rattle.table.proofs.links.make.cases_of.Goals.{in-Some, in_default}

pub loop-n-init : goal.loop-n-init
loop-n-init c = cases_none (rows_of c.args.rows.now) 1024 refl

pub loop-n-preserved : goal.loop-n-preserved
loop-n-preserved c =
    let rows = rows_of c.args.rows.now in
    let n = c.loop-n.n in
    let counted = c.len-n-end.ensures.value in
    let bound = c.len-n-end.ensures.bound in
    let below : c.loop-n.n < length (rows_of c.args.rows.now) = omega arith in
    let few : length (rows_of c.args.rows.now) ≤ 1024 = omega arith in
    let After : List (Option ℕ) → Type 0 = λ cases. Cases (rows_of c.args.rows.now) cases (c.loop-n.n + 1) in
    elim c.match-lead.branch [
      | in-Some w ↦
          let led = w.in-Some.ensures in
          subst After (sym w.cases-is) (cases-noted rows c.loop-n.cases n c.loop-n.invariant below few w.in-Some.to w.in-Some.case led.to.0 led.from led.to.1 led.to.2)
      | in_default w ↦ subst After (sym w.cases-is) (cases-kept rows c.loop-n.cases n c.loop-n.invariant below few w.in_default.ensures.to)
    ]
