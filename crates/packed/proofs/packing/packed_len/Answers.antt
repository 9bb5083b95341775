use Rattle.std.proofs.Common.{◌≡◌, ◌+◌, ◌*◌, ◌≤◌, ◌∙◌, length, sum_by, arith, rules, tests}
use Rattle.std.proofs.lemmas.Iterator.Adapters.{fits_from_length, at_most_from_yields_List}
use Rattle.std.proofs.lemmas.Iterator.{YieldsList-from_slice}
use Rattle.packed.specs.Packing.{integers_of}
use Rattle.packed.specs.Shaped.{forms_of}
use Rattle.packed.proofs.Packs.{length-bytes}
use Rattle.packed.proofs.Shaping.{few-integers}
use Rattle.packed.proofs.packing.packed_len.Goals as goal

pub sum-requires-clause-fits : goal.sum-requires-clause-fits
sum-requires-clause-fits c =
    let few : length c.args.nodes.now ≤ 288230376151711744 = omega arith in
    fits_from_length _ _ 288230376151711744 _ (at_most_from_yields_List (YieldsList-from_slice c.args.nodes.now (search rules)) few) c.map.ensures.closure (omega arith) (λ x r q k. search (rules, tests))

pub returns : goal.returns
returns c =
    let value : c.sum.result ≡ sum_by (λ n. 1 + 8 * integers_of (forms_of c.args.shapes.now) n.constructor) c.args.nodes.now = search rules in
    record { value = value ∙ length-bytes (forms_of c.args.shapes.now) c.args.nodes.now c.requires (few-integers c.args.shapes.now) }
