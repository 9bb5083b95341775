use Rattle.std.proofs.Common.{map, take, unwrap_or, sym, ap, ◌∙◌, arith, rules}
use Rattle.std.proofs.lemmas.List.{length-map}
use Rattle.std.proofs.lemmas.Option.{slice_get-map}
use Rattle.table.specs.Held.{functions_of}
use Rattle.table.specs.Meaning.{function_of}
use Rattle.table.proofs.Arrays.{made-front}
use Rattle.table.proofs.Recording.{length-records}
use Rattle.table.proofs.reading.first_rows.Goals as goal

pub returns-clause-front : goal.returns-clause-front
returns-clause-front c =
    let fs = functions_of c.args.functions.now in
    let rs = c.args.functions.now.records in
    let all = length-records 8 function_of rs.count rs.bytes.now in
    let few = c.args.functions.now.few in
    let long = length-map fs (λ f. f.first) in
    ap (λ n. take n c.from_fn.result) (sym long)
    ∙ made-front _ _ 32 0 (map (λ f. f.first) fs) (omega arith) (λ i y q h e. let got = ap (λ o. unwrap_or o 0) (sym (slice_get-map (λ f. f.first) fs i)) in search (rules, got)) c.from_fn.result c.from_fn.ensures.items
