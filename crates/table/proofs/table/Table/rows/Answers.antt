use Rattle.std.proofs.Common.{length, sym, ap, ◌∙◌}
use Rattle.table.specs.Table.{rows_in}
use Rattle.table.specs.Tabled.{bytes_of}
use Rattle.table.proofs.Tabling.{table-formed, formed-whole}
use Rattle.table.proofs.table.Table.rows.Goals as goal

pub rows-requires : goal.rows-requires
rows-requires c =
    let t = c.args.self.now in
    let same = c.sections.ensures in
    (λ i. length (rows_in (same.bytes i) (same.layout i))) ∙ formed-whole (bytes_of t) t.layout (table-formed t) ∙ sym (ap (λ l. l.rows.count) same.layout)
