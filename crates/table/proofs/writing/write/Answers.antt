use Rattle.std.proofs.Common.{◌≡◌, ℕ, ◌++◌, take, drop, Ok, Result, sym, ap, ◌∙◌, subst, rules}
use Rattle.std.proofs.lemmas.List.{take_at}
use Rattle.packed.specs.declared.fault.Fault.{Fault}
use Rattle.table.specs.Writing.{ReadsBack, table_bytes, table_length}
use Rattle.table.proofs.ReadingBack.{length-table}
use Rattle.table.proofs.writing.write.Goals as goal

same_ok : (m n : ℕ) → ◌≡◌ {A = Result ℕ Fault} (Ok m) (Ok n) → m ≡ n
same_ok m n e = cc

pub returns : goal.returns
returns c =
    let sizes = c.args.sizes.now in
    let fields = c.args.fields.now in
    let functions = c.args.functions.now in
    let rows = c.args.rows.now in
    let bytes = table_bytes sizes fields functions rows in
    let out = c.args.out.now in
    let long = length-table sizes fields functions rows in
    let put = c.put_table.ensures in
    let after = put.after ∙ ap (λ n. bytes ++ drop n out) long in
    record {
      value = search rules;
      after = after;
      back = λ n e.
          let same = same_ok (table_length sizes fields functions rows) n e in
          let front = ap (take n) after ∙ take_at bytes (drop (table_length sizes fields functions rows) out) n (long ∙ same) in
          subst (ReadsBack sizes fields functions rows) (sym front) put.back;
    }
