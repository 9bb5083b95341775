use Rattle.std.proofs.Common.{◌≡◌, ◌<◌, false, MatchOption, Err, ap, ◌∙◌, arith, rules}
use Rattle.std.proofs.lemmas.Result.{err_from_is_err_and}
use Rattle.table.specs.Meaning.{record_at}
use Rattle.table.proofs.Judging.{agreed, unfair-stop, unfair-more}
use Rattle.table.proofs.judge.all_fair.Goals as goal

pub loop-i-preserved : goal.loop-i-preserved
loop-i-preserved g c fair judged =
    let rs = c.args.records.now in
    let i = c.loop-i.i-counter in
    let w = g.R.Record.WIDTH in
    let below : c.loop-i.i-counter < c.args.records.now.count = omega arith in
    let told : MatchOption c.get.result (c.is_some_and-fair.result ≡ false) (λ x. goal.F-post g c.args.is_fair c.loop-i.i-counter x c.is_some_and-fair.result) = search rules in
    let same = agreed (record_at w g.R.Record.item rs.bytes.now) (goal.F-post g c.args.is_fair) fair rs.count i c.get.result c.is_some_and-fair.result judged below c.get.ensures.value told in
    unfair-more fair c.args.start w rs.count i below (c.loop-i.invariant fair judged) c.is_some_and-fair.result c.WIDTH.result same c.WIDTH.ensures c.unless.result c.unless.ensures.value c.in_ok-unless.field-0 c.in_ok-unless.was

pub returns-in_err-unless : goal.returns-in_err-unless
returns-in_err-unless g c =
    let rs = c.args.records.now in
    let i = c.loop-i.i-counter in
    let w = g.R.Record.WIDTH in
    let below : c.loop-i.i-counter < c.args.records.now.count = omega arith in
    let told : MatchOption c.get.result (c.is_some_and-fair.result ≡ false) (λ x. goal.F-post g c.args.is_fair c.loop-i.i-counter x c.is_some_and-fair.result) = search rules in
    let p = err_from_is_err_and c.from_residual.result c.from_residual.ensures.1 in
    record {
      value = λ fair judged.
          let same = agreed (record_at w g.R.Record.item rs.bytes.now) (goal.F-post g c.args.is_fair) fair rs.count i c.get.result c.is_some_and-fair.result judged below c.get.ensures.value told in
          p.1 ∙ ap Err p.2 ∙ unfair-stop fair c.args.start w rs.count i below (c.loop-i.invariant fair judged) c.is_some_and-fair.result c.WIDTH.result same c.WIDTH.ensures c.unless.result c.unless.ensures.value c.in_err-unless.field-0.0 c.in_err-unless.was;
    }
