use Rattle.std.proofs.Common.{[], ◌∷◌, ◌++◌, length, drop, sym, ap, ◌∙◌}
use Rattle.packed.specs.Trees.{low}
use Rattle.packed.proofs.Fronts.{front-none}
use Rattle.table.specs.Writing.{fields_bytes, function_bytes, section_bytes}
use Rattle.table.proofs.ReadingBack.{reads-back, table-word}
use Rattle.table.proofs.writing.put_table.Goals as goal

pub returns : goal.returns
returns c =
    let sizes = c.args.sizes.now in
    let fields = c.args.fields.now in
    let functions = c.args.functions.now in
    let rows = c.args.rows.now in
    let out = c.args.out.now in
    let types = low 2 (length sizes) ++ sizes in
    let constructors = section_bytes fields_bytes fields in
    let declared = section_bytes function_bytes functions in
    let edition = c.put.ensures.after [] out (front-none out) in
    let count = c.put_count.ensures.after (1 ∷ []) out edition in
    let first = c.put-2.ensures.after (1 ∷ low 2 (length sizes)) out count in
    let second = c.put_section-constructors_end.ensures.after (1 ∷ types) out first in
    let third = c.put_section-functions_end.ensures.after ((1 ∷ types) ++ constructors) out second in
    let fourth = c.put_section.ensures.after (((1 ∷ types) ++ constructors) ++ declared) out third in
    let word = table-word sizes fields functions rows in
    let long = sym fourth.long ∙ ap length word in
    let pre = c.requires in
    record {
      after = fourth.holds ∙ (λ i. word i ++ drop (long i) out);
      back = reads-back sizes fields functions rows pre.types pre.constructors pre.declared pre.described c.put_section-constructors_end.ensures.back c.put_section-functions_end.ensures.back c.put_section.ensures.back;
    }
