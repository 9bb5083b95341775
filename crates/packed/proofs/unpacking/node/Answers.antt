use Rattle.std.proofs.Common.{◌≡◌, ◌/◌, [], ◌∷◌, length, get_or, map, take, set, sym, ap, ◌∙◌, arith, w64, SFits, rules}
use Rattle.std.proofs.lemmas.List.{length-map, map-append, take_more, take_all, length-take, length-take-le}
use Rattle.std.proofs.lemmas.Int.{to_z-of_z}
use Rattle.packed.specs.Trees.{padded}
use Rattle.packed.specs.Packing.{integer, integers_in}
use Rattle.packed.proofs.Blanks.{padded-push}
use Rattle.packed.proofs.Digits.{eights-front}
use Rattle.packed.proofs.unpacking.node.Goals as goal

pub loop-i-preserved : goal.loop-i-preserved
loop-i-preserved c =
    let from = c.from.ensures in
    let i = c.loop-i.i in
    let es = take c.from.result c.as_chunks.result.0.now in
    let z = integer (get_or es i []) in
    let zs = map integer (take i es) in
    let most = length-take c.from.result c.as_chunks.result.0.now in
    let inside = c.loop-i-test.true in
    let long : length (map integer (take c.loop-i.i (take c.from.result c.as_chunks.result.0.now))) ≡ c.loop-i.i = length-map (take i es) integer ∙ length-take-le i es (omega arith) in
    let fit : SFits w64 c.integer.result = search rules in
    let read = to_z-of_z w64 c.integer.result fit ∙ c.integer.ensures.value in
    (λ j. set (c.loop-i.invariant j) (sym long j) (read j))
    ∙ padded-push 4 zs z (omega arith)
    ∙ ap (padded 4) (sym (ap (map integer) (take_more es i [] inside) ∙ map-append integer (take i es) (get_or es i [] ∷ [])))

pub returns : goal.returns
returns c =
    let es = take c.from.result c.as_chunks.result.0.now in
    let bs = c.args.bytes.now in
    let all : map integer (take c.loop-i.i (take c.from.result c.as_chunks.result.0.now)) ≡ integers_in c.args.k c.args.bytes.now =
    ap (map integer) (take_all c.loop-i.i es c.loop-i-test.false ∙ ap (λ n. take n c.as_chunks.result.0.now) c.from.ensures ∙ ap (take c.args.k) c.as_chunks.ensures.front)
    ∙ eights-front c.args.k (length bs / 8) bs (omega (arith, c.requires.within)) in
    record { value = λ j. record { constructor = c.args.tag; integers = (c.loop-i.invariant ∙ ap (padded 4) all) j } }
