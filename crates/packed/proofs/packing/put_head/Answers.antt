use Rattle.std.proofs.Common.{◌≡◌, ◌<◌, ◌≤◌, ◌+◌, [], ◌∷◌, ◌++◌, length, get_or, take, drop, pos, sym, refl, ap, ◌∙◌, subst, add-one, arith, w64, SFits}
use Rattle.std.proofs.lemmas.List.{append_assoc, get_or-take, length-take, length-take-le, set_split, take_all, take_more}
use Rattle.std.proofs.lemmas.Int.{to_z-of_z}
use Rattle.packed.specs.Trees.{eight, eights}
use Rattle.packed.proofs.Blanks.{fit-at}
use Rattle.packed.proofs.Digits.{eights-push}
use Rattle.packed.proofs.Fronts.{front-more, front_same}
use Rattle.packed.proofs.packing.put_head.Goals as goal

pub loop-i-preserved : goal.loop-i-preserved
loop-i-preserved c word old f =
    let from = c.from.ensures in
    let zs = take c.from.result c.args.node.now.integers in
    let i = c.loop-i.i in
    let z = get_or zs i (pos 0) in
    let few : length (take c.from.result c.args.node.now.integers) ≤ c.from.result = omega (arith, length-take c.from.result c.args.node.now.integers) in
    let inside : c.loop-i.i < c.from.result = let h = c.loop-i-test.true in omega arith in
    let same = get_or-take c.from.result c.args.node.now.integers i (pos 0) inside in
    let fit = fit-at c.args.node.now.integers i c.requires.whole.fit (let four = c.requires.whole.four in omega arith) in
    let fits : SFits w64 (get_or (take c.from.result c.args.node.now.integers) c.loop-i.i (pos 0)) = subst (SFits w64) (sym same) fit in
    let before = c.loop-i.invariant word old f in
    let now = c.put_integer.ensures (word ++ eights (take i zs)) old before in
    let words : (word ++ eights (take i zs)) ++ eight (get_or zs i (pos 0)) ≡ word ++ eights (take (i + 1) zs) =
    append_assoc word (eights (take i zs)) (eight z)
    ∙ ap (λ l. word ++ l) (sym (eights-push (take i zs) z) ∙ ap eights (sym (take_more zs i (pos 0) c.loop-i-test.true))) in
    front_same (ap (λ v. (word ++ eights (take i zs)) ++ eight v) (to_z-of_z w64 z fits) ∙ words) (omega arith) now

pub returns : goal.returns
returns c word old f =
    let xs = c.args.out.now in
    let at = c.args.at in
    let tag = c.args.node.now.constructor in
    let zs = c.args.node.now.integers in
    let four = c.requires.whole.four in
    let from = c.from.ensures in
    let few = length-take-le c.args.k zs (omega arith) in
    let first = front-more word old at xs (tag ∷ []) _ 1 refl (set_split xs at tag (omega arith) ∙ ap (λ n. take at xs ++ tag ∷ drop n xs) (sym (add-one at))) f in
    let all = take_all c.loop-i.i (take c.from.result zs) c.loop-i-test.false ∙ ap (λ n. take n zs) c.from.ensures in
    front_same (append_assoc word (tag ∷ []) (eights (take c.loop-i.i (take c.from.result zs))) ∙ ap (λ l. word ++ (tag ∷ eights l)) all) (omega arith) (c.loop-i.invariant (word ++ tag ∷ []) old first)
