use Rattle.std.proofs.Common.{◌≡◌, ◌&&◌, leb, Some, None, Ok, Err, sym, refl, ap, ◌∙◌}
use Rattle.packed.specs.declared.constructor.Limit.TheVariants as limit
use Rattle.packed.specs.Forms.{either, total, size_limit}
use Rattle.packed.proofs.Limits.{first-is, total-sum}
use Rattle.packed.proofs.shapes.make.total_of.Goals as goal

pub returns-in-Some : goal.returns-in-Some
returns-in-Some c =
    let sizes = c.args.sizes.now in
    let first : size_limit 0 c.args.sizes.now ≡ Some (limit.TypeSize c.in-Some.of) = first-is (λ n. leb 1 n && leb n 16) limit.TypeSize size_limit (λ t. refl) (λ t n ns. refl) sizes _ (sym c.in-Some.is ∙ c.first_missized.ensures) in
    ap (λ o. either o (Ok (total sizes)) Err) (sym first)

pub returns-in-None : goal.returns-in-None
returns-in-None c =
    let sizes = c.args.sizes.now in
    let first : size_limit 0 c.args.sizes.now ≡ None = first-is (λ n. leb 1 n && leb n 16) limit.TypeSize size_limit (λ t. refl) (λ t n ns. refl) sizes _ (sym c.in-None.is ∙ c.first_missized.ensures) in
    ap Ok (c.sum_of.ensures ∙ sym (total-sum sizes)) ∙ ap (λ o. either o (Ok (total sizes)) Err) (sym first)
