use Rattle.std.proofs.Common.{ℕ, map, ap, ◌∙◌}
use Rattle.table.specs.Linked.{case_in, taker_in}
use Rattle.table.specs.Links.{case_for, taker_for}
use Rattle.table.specs.Table.{functions_in, rows_in}
use Rattle.table.specs.Tabled.{bytes_of}
use Rattle.table.proofs.Enclosed.{takers-enclose, cases-enclose, branches-cased}
use Rattle.table.proofs.Tabling.{table-formed}
use Rattle.table.proofs.table.Table.links.Goals as goal

pub returns : goal.returns
returns c =
    let t = c.args.self.now in
    let rows = rows_in (bytes_of t) t.layout in
    let firsts = map (λ f. f.first) (functions_in (bytes_of t) t.layout) in
    let stand = (table-formed t).order in
    let same = c.rows.ensures.value in
    let takers = λ (n : ℕ). c.new.ensures.all.0 n ∙ ap (λ l. taker_for l n) same in
    let cases = λ (n : ℕ). c.new.ensures.all.1 n ∙ ap (λ l. case_for l n) same in
    record {
      takers = takers;
      cases = cases;
      taken = takers-enclose rows firsts stand (taker_in c.new.result) takers;
      cased = cases-enclose rows firsts stand (case_in c.new.result) cases;
      branches = branches-cased rows firsts stand (case_in c.new.result) cases;
    }
