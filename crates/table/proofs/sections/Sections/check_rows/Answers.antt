use Rattle.std.proofs.Common.{◌≡◌, ◌*◌, false, take, drop, sym, ap, ◌∙◌, rules}
use Rattle.packed.specs.Forms.{either}
use Rattle.packed.specs.Shaped.{forms_of}
use Rattle.table.specs.Held.{functions_of}
use Rattle.table.specs.Meaning.{fair_row, first_unfair, record_at}
use Rattle.table.specs.Rows.{row_of}
use Rattle.table.specs.Table.{fair_row_at, terms_in}
use Rattle.table.proofs.Judging.{judged-by}
use Rattle.table.proofs.Meanings.{terms-same}
use Rattle.table.proofs.sections.Sections.check_rows.Goals as goal

pub returns : goal.returns
returns c =
    let s = c.args.self.now in
    let l = s.layout in
    let k = c.row_records.ensures in
    let terms = terms-same s.bytes.now l s.laid c.args.shapes c.requires.sizes c.requires.forms _ c.functions-functions.ensures.value in
    record {
      value =
          c.all_fair.ensures.value (fair_row_at s.bytes.now l) (judged-by (record_at 16 row_of c.row_records.result.bytes.now) _ (λ i. fair_row (terms_in s.bytes.now l)) (fair_row_at s.bytes.now l) c.row_records.result.count
          (λ i h. ap (λ bs. either (row_of (take 16 (drop (i * 16) bs))) false (fair_row (terms_in s.bytes.now l))) (sym k.value))
          (λ i x b h a.
          let told : b ≡ fair_row (record { types = c.args.shapes.types; forms = forms_of c.args.shapes; functions = functions_of c.functions-functions.result }) x = search rules in
          told ∙ ap (λ t. fair_row t x) terms))
          ∙ ap (first_unfair (fair_row_at s.bytes.now l) l.rows.start 16 0) k.counted;
    }
