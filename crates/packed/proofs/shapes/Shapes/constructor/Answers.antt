-- A constructor that the shapes hold has fair fields.
use Rattle.std.proofs.Common.{◌≡◌, ℕ, ◌≤◌, ◌∙◌, ltb, List, length, get_or, Option, Some, None, Bor, IfSome, sym, ap, refl, subst}
use Rattle.std.specs.List.{slice_get}
use Rattle.std.specs.Option.{is_some, option_copied}
use Rattle.std.proofs.lemmas.Bool.{ltb-true, ltb-false}
use Rattle.std.proofs.lemmas.Option.{slice_get_past, slice_get_read}
use Rattle.packed.specs.declared.constructor.Constructor.{Constructor}
use Rattle.packed.specs.Shaped.{forms_of, sizes_of}
use Rattle.packed.proofs.Fair.{few-fields}
use Rattle.packed.proofs.shapes.Shapes.constructor.Goals as goal

-- what `get` and `copied` read
copied-get : (o : Option (Bor Constructor)) (xs : List Constructor) (i : ℕ) → is_some o ≡ ltb i (length xs) → IfSome o (λ x. x.now ≡ get_or xs i x.now) → option_copied o ≡ slice_get xs i
copied-get None xs i within read = sym (slice_get_past xs i (ltb-false i (length xs) (sym within)))
copied-get (Some x) xs i within read = sym (slice_get_read xs (length xs) i x.now refl (ltb-true i (length xs) (sym within)) read)

pub returns-clause-cases : goal.returns-clause-cases
returns-clause-cases c =
    let s = c.args.self.now in
    let at = c.copied.ensures ∙ copied-get c.get.result c.forms.result.now c.from.result c.get.ensures.lookup.0 c.get.ensures.lookup.1 ∙ ap (λ g. slice_get g c.from.result) c.forms.ensures in
    subst (λ o. IfSome o (λ k. (k.fields.integers ≤ 4) × (k.fields.subtrees ≤ 4))) (sym at) (few-fields (sizes_of s) (forms_of s) s.fair c.from.result)
