use Rattle.std.proofs.Common.{ap, ◌∙◌}
use Rattle.table.specs.Rows.{row_of}
use Rattle.table.proofs.RowBytes.{row-of-bytes}
use Rattle.table.proofs.row.Row.encode.Goals as goal

pub returns : goal.returns
returns c =
    let made = c.bytes_of.ensures in
    record { value = made.value; back = ap row_of made.value ∙ row-of-bytes c.args.self.now made.held }
