use Rattle.std.proofs.Common.{◌≡◌, length, get_or, take, ap, ◌∙◌, w64, SFits, to_z, of_z, arith, rules}
use Rattle.std.specs.List.{between}
use Rattle.std.proofs.lemmas.Int.{to_z-of_z}
use Rattle.packed.specs.Packing.{integer}
use Rattle.table.specs.declared.row.Row.TheVariants as row
use Rattle.table.specs.Rows.{closed, word}
use Rattle.table.proofs.RowBytes.{joined-front}
use Rattle.table.proofs.decoding.by_kind.Goals as goal

pub returns-in-1-len8-up : goal.returns-in-1-len8-up
returns-in-1-len8-up c =
    let bs = c.args.operands.now in
    let z = c.from_le_bytes-value.result in
    let fits : SFits w64 z = search rules in
    let value : to_z w64 (of_z w64 z) ≡ integer (take 8 bs) = to_z-of_z w64 z fits ∙ c.from_le_bytes-value.ensures ∙ ap (to_z w64) (joined-front bs c.requires) in
    rw c.in-1-len8-up.is-0 (c.closed_row-in-1-len8-up.ensures ∙ ap (λ v. closed (row.Number v) (between 8 (length bs) bs)) value)

pub returns-in-4-len3-up : goal.returns-in-4-len3-up
returns-in-4-len3-up c =
    let bs = c.args.operands.now in
    let room : c.from_le_bytes-room.result ≡ word bs 1 = omega arith in
    rw c.in-4-len3-up.is-0 (c.closed_row-in-4-len3-up.ensures ∙ ap (λ n. closed (row.Region (get_or bs 0 0) n) (between 3 (length bs) bs)) room)
