use Rattle.std.proofs.Common.{◌≡◌, ℕ, ◌+◌, List, [], ◌∷◌, sum, rules, refl, ap, ◌∙◌}
use Rattle.std.proofs.lemmas.List.Sums.{sum_by-cons}
use Rattle.packed.specs.Forms.{total}
use Rattle.table.proofs.layout.sum.Goals as goal

total-sum : (ns : List ℕ) → sum ns ≡ total ns
total-sum [] = refl
total-sum (n ∷ ns) = sum_by-cons (λ x. x) n ns ∙ ap (λ k. n + k) (total-sum ns)

pub returns : goal.returns
returns c =
    let same = total-sum c.args.sizes.now in
    record { value = search (rules, same) }
