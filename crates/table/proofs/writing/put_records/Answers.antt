use Rattle.std.proofs.Common.{◌≡◌, ◌+◌, ◌*◌, ◌++◌, length, take, refl, ap, ◌∙◌, subst, inl, inr, suc-mul, add-one, arith, rules}
use Rattle.std.proofs.lemmas.List.{append_assoc}
use Rattle.std.proofs.lemmas.Option.{slice_get_read, slice_get_within}
use Rattle.std.proofs.lemmas.Bool.{cases_eq}
use Rattle.packed.proofs.Fronts.{front_same}
use Rattle.table.specs.Writing.{spelt}
use Rattle.table.proofs.Writings.{spelt-push, same-there}
use Rattle.table.proofs.writing.put_records.Goals as goal

pub loop-i-preserved : goal.loop-i-preserved
loop-i-preserved g c =
    let w = g.row.N in
    let spell = g.T.Spelled.spell in
    let xs = c.args.records.now in
    let at = c.args.at in
    let i = c.loop-i.i in
    let x = c.index-records-i.result in
    let below = c.loop-i-test.true in
    let here = slice_get_read xs (length xs) i x refl below c.index-records-i.is in
    let long : length c.spelled.result ≡ g.row.N = search rules in
    let more : c.args.at + c.loop-i.i * g.row.N + length c.spelled.result ≡ c.args.at + (c.loop-i.i + 1) * g.row.N =
    (let a = ap (λ n. n * w) (add-one i) in let b = suc-mul i w in omega arith) in (
      λ word old f. front_same
          (append_assoc word (spelt spell (take i xs)) c.spelled.result ∙ ap (λ l. word ++ l) (ap (λ v. spelt spell (take i xs) ++ v) (c.spelled.ensures.value ∙ ap spell c.index-records-i.is) ∙ spelt-push spell xs i x below))
          more
          (c.put.ensures.after (word ++ spelt spell (take i xs)) old (c.loop-i.invariant.0 word old f)),
      λ k h y e. elim (cases_eq k i) [
        | inl q ↦ subst g.T.Spelled.back (same-there xs i k x y q here e) c.spelled.ensures.back
        | inr d ↦ c.loop-i.invariant.1 k (omega arith) y e
      ],
    )

pub returns-clause-back : goal.returns-clause-back
returns-clause-back g c k x e = let below = slice_get_within c.args.records.now k x e in c.loop-i.invariant.1 k (omega arith) x e
