use Rattle.std.proofs.Common.{◌≡◌, Some, None, Ok, Err, sym, refl, ap, ◌∙◌}
use Rattle.packed.specs.declared.constructor.Limit.TheVariants as limit
use Rattle.packed.specs.Forms.{either, fair, fields_limit}
use Rattle.packed.proofs.Limits.{first-is}
use Rattle.packed.proofs.shapes.make.test_fields.Goals as goal

pub returns-in-Some : goal.returns-in-Some
returns-in-Some c =
    let first : fields_limit c.args.types 0 c.args.fields.now ≡ Some (limit.Constructor c.in-Some.number) = first-is (fair c.args.types) limit.Constructor (fields_limit c.args.types) (λ i. refl) (λ i f fs. refl) c.args.fields.now _ (sym c.in-Some.is ∙ c.first_unfair.ensures) in
    ap (λ o. either o (Ok tt) Err) (sym first)

pub returns-in-None : goal.returns-in-None
returns-in-None c =
    let first : fields_limit c.args.types 0 c.args.fields.now ≡ None = first-is (fair c.args.types) limit.Constructor (fields_limit c.args.types) (λ i. refl) (λ i f fs. refl) c.args.fields.now _ (sym c.in-None.is ∙ c.first_unfair.ensures) in
    ap (λ o. either o (Ok tt) Err) (sym first)
