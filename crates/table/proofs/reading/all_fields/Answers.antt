use Rattle.std.proofs.Common.{[], ◌∷◌, take, unwrap_or, sym, ap, ◌∙◌, arith, rules}
use Rattle.packed.specs.declared.constructor.Fields.{Fields}
use Rattle.table.specs.Meaning.{records_from, fields_of}
use Rattle.table.proofs.Arrays.{made-front}
use Rattle.table.proofs.Recording.{length-records, records-get}
use Rattle.table.proofs.reading.all_fields.Goals as goal

abbrev blank : Fields
blank = record { integers = 0; subtrees = 0; types = 255 ∷ 255 ∷ 255 ∷ 255 ∷ [] }

pub returns-clause-front : goal.returns-clause-front
returns-clause-front c =
    let rs = c.args.constructors.now in
    let fs = records_from 6 fields_of rs.count rs.bytes.now in
    let long = length-records 6 fields_of rs.count rs.bytes.now in
    ap (λ n. take n c.from_fn.result) (sym long)
    ∙ made-front _ _ 64 blank fs (omega arith) (λ i y q h e. let got = ap (λ o. unwrap_or o blank) (records-get 6 fields_of rs.count rs.bytes.now i) in search (rules, got)) c.from_fn.result c.from_fn.ensures.items
