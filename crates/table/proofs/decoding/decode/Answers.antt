use Rattle.std.proofs.Common.{◌≡◌, sym, ◌∙◌, rules}
use Rattle.table.specs.Rows.{row_of}
use Rattle.table.proofs.RowBytes.{bytes-of-row}
use Rattle.table.proofs.decoding.decode.Goals as goal

pub returns-clause-back : goal.returns-clause-back
returns-clause-back c =
    let value : c.by_kind.result ≡ row_of c.args.bytes.now = search rules in
    λ x e. bytes-of-row c.args.bytes.now x (sym value ∙ e) (λ i. (c.type_inv.bytes i).fits)
