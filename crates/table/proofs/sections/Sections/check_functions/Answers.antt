use Rattle.std.proofs.Common.{◌≡◌, ◌*◌, false, take, drop, sym, ap, ◌∙◌, arith, rules}
use Rattle.packed.specs.Forms.{either}
use Rattle.table.specs.Meaning.{fair_function, first_unfair, function_of}
use Rattle.table.specs.Sections.{within}
use Rattle.table.specs.Table.{fair_function_at}
use Rattle.table.proofs.Recording.{records-nth}
use Rattle.table.proofs.sections.Sections.check_functions.Goals as goal

pub returns : goal.returns
returns c =
    let s = c.args.self.now in
    let l = s.layout in
    let k = c.function_records.ensures in
    record {
      value =
          c.all_fair.ensures.value (fair_function_at s.bytes.now l) (λ i h b a.
          let told : b ≡ fair_function c.args.self.now.layout.types.count i (function_of (take 8 (drop (i * 8) c.function_records.result.bytes.now))) = search rules in
          told
          ∙ ap (λ bs. fair_function l.types.count i (function_of (take 8 (drop (i * 8) bs)))) k.value
          ∙ sym (ap (λ o. either o false (fair_function l.types.count i)) (records-nth 8 function_of l.functions.count (within s.bytes.now l.functions) i (let n = k.counted in omega arith))))
          ∙ ap (first_unfair (fair_function_at s.bytes.now l) l.functions.start 8 0) k.counted;
    }
