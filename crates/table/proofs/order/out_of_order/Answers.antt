use Rattle.std.proofs.Common.{sym, ap, ◌∙◌}
use Rattle.std.specs.Option.{option_or}
use Rattle.table.specs.Held.{rows_of}
use Rattle.table.proofs.OrderFaults.{lowest, no-fault}
use Rattle.table.proofs.OrderSpans.{orderly}
use Rattle.table.proofs.Walking.{answered}
use Rattle.table.proofs.order.out_of_order.Goals as goal

pub returns : goal.returns
returns c =
    let rows = rows_of c.args.rows.now in
    let firsts = c.args.firsts.now in
    let found = c.read.new.self.lowest in
    let value = c.or.ensures ∙ ap (λ e. option_or e found) c.err.ensures.value ∙ answered c.read.result found ∙ sym c.read.ensures.goes in
    record {
      value = value;
      orderly = orderly rows firsts c.or.result value;
      lowest = lowest rows firsts c.or.result value;
      none = no-fault rows firsts c.or.result value;
    }
