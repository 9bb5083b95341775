-- The loop that numbers constructors.
use Rattle.std.proofs.Common.{◌≡◌, ℕ, zero, suc, ◌+◌, ◌-◌, ◌<◌, ◌≤◌, false, List, [], ◌∷◌, ◌++◌, map, length, get_or, take, drop, set, is_some, sym, refl, ap, ◌∙◌, subst, ⊎_elim, arith, length-drop, length-set}
use Rattle.std.proofs.lemmas.List.{append-nil, append_assoc, map-append, take-append-drop, take_more_set, drop_more, drop_all}
use Rattle.std.proofs.lemmas.Option.{slice_get-get_or}
use Rattle.std.proofs.lemmas.Bool.{cases_lt}
use Rattle.packed.specs.declared.constructor.Constructor.{Constructor}
use Rattle.packed.specs.declared.constructor.Fields.{Fields}
use Rattle.packed.specs.Forms.{total, numbered, size_limit, fields_in}
use Rattle.packed.proofs.Fair.{sizes-at}

-- without fields there is nothing to number
numbered-none : (t : ℕ) (ns : List ℕ) → numbered t ns [] ≡ []
numbered-none t [] = refl
numbered-none t (zero ∷ ns) = numbered-none (t + 1) ns
numbered-none t (suc n ∷ ns) = numbered-none (t + 1) ns

fields-of : (t : ℕ) (fs : List Fields) → fields_in (map (λ f. record { of = t; fields = f }) fs) ≡ fs
fields-of t [] = refl
fields-of t (f ∷ fs) = ap (λ l. f ∷ l) (fields-of t fs)

-- numbered constructors have the fields that they were made from
pub fields-numbered : (t : ℕ) (ns : List ℕ) (fs : List Fields) → total ns ≡ length fs → fields_in (numbered t ns fs) ≡ fs
fields-numbered t [] [] h = refl
fields-numbered t [] (f ∷ fs) h = absurd (omega arith)
fields-numbered t (n ∷ ns) fs h =
    let rest : total ns ≡ length (drop n fs) = omega (arith, length-drop n fs) in
    map-append (λ c. c.fields) (map (λ f. record { of = t; fields = f }) (take n fs)) (numbered (t + 1) ns (drop n fs))
    ∙ (λ i. fields-of t (take n fs) i ++ fields-numbered (t + 1) ns (drop n fs) rest i)
    ∙ take-append-drop n fs

-- before constructor i, of which type `of` has `left` still to come
pub record Numbering (sizes : List ℕ) (fields : List Fields) (of left i : ℕ) (constructors : List Constructor) : Type 0 where
  pub room : length constructors ≡ 64
  pub known : of < length sizes
  pub due : left + total (drop (of + 1) sizes) + i ≡ length fields
  pub goes : take i constructors ++ numbered of (left ∷ drop (of + 1) sizes) (drop i fields) ≡ numbered 0 sizes fields

-- the same, where type `of` takes constructor i
pub record Ready (sizes : List ℕ) (fields : List Fields) (of left i : ℕ) (constructors : List Constructor) : Type 0 where
  pub some : 1 ≤ left
  pub state : Numbering sizes fields of left i constructors

-- under other names for the same type and number
pub alike : {sizes : List ℕ} {fields : List Fields} {of left i of' left' : ℕ} {constructors : List Constructor} → of' ≡ of → left' ≡ left → Ready sizes fields of left i constructors → Ready sizes fields of' left' i constructors
alike {sizes} {fields} {of} {left} {i} {of'} {left'} {constructors} e f r =
    subst (λ o. Ready sizes fields o left' i constructors) (sym e) (subst (λ l. Ready sizes fields of l i constructors) (sym f) r)

module _ (sizes : List ℕ) (fields : List Fields) where
  module _ (of left i : ℕ) (constructors : List Constructor) (before : Numbering sizes fields of left i constructors) (empty : left ≡ 0) (more : i < length fields) where
    -- a type whose constructors are all numbered has a next one
    pub next : of + 1 < length sizes
    next =
        ⊎_elim (λ h. h)
        (λ h. let none = ap total (drop_all (of + 1) sizes h) in absurd (omega (arith, before.due)))
        (cases_lt (of + 1) (length sizes))

    pub moved : is_some (size_limit 0 sizes) ≡ false → Ready sizes fields (of + 1) (get_or sizes (of + 1) 0) i constructors
    moved sized =
        let split = drop_more sizes (of + 1) 0 next in
        let sum = ap total split in
        let on : numbered of (left ∷ drop (of + 1) sizes) (drop i fields) ≡ numbered (of + 1) (get_or sizes (of + 1) 0 ∷ drop (of + 1 + 1) sizes) (drop i fields) =
        ap (λ n. numbered of (n ∷ drop (of + 1) sizes) (drop i fields)) empty ∙ ap (λ ns. numbered (of + 1) ns (drop i fields)) split in
        record {
          some = (sizes-at 0 sizes (of + 1) (get_or sizes (of + 1) 0) sized (slice_get-get_or sizes (of + 1) 0 next)).0;
          state = record {
            room = before.room;
            known = next;
            due = omega (arith, before.due);
            goes = ap (λ l. take i constructors ++ l) (sym on) ∙ before.goes;
          };
        }

  module _ (of left i : ℕ) (constructors : List Constructor) (before : Numbering sizes fields of left i constructors) where
    pub ready : (left ≡ 0 → ⊥) → Ready sizes fields of left i constructors
    ready some = record { some = omega arith; state = before }

    pub turned : (d : Fields) → 1 ≤ left → i < length fields → length fields ≤ 64 → Numbering sizes fields of (left - 1) (i + 1) (set constructors i (record { of = of; fields = get_or fields i d }))
    turned d some more most =
        let f = get_or fields i d in
        let inside : i < length constructors = omega (arith, before.room) in
        let ns = drop (of + 1) sizes in
        let less : suc (left - 1) ≡ left = omega arith in
        let rest = numbered of ((left - 1) ∷ ns) (drop (i + 1) fields) in
        record {
          room = length-set constructors i (record { of = of; fields = f }) ∙ before.room;
          known = before.known;
          due = omega (arith, before.due);
          goes =
              ap (λ l. l ++ rest) (take_more_set constructors i (record { of = of; fields = f }) inside)
              ∙ append_assoc (take i constructors) (record { of = of; fields = f } ∷ []) rest
              ∙ (λ j. take i constructors ++ numbered of (less j ∷ ns) (sym (drop_more fields i d more) j))
              ∙ before.goes;
        }

    pub ended : length fields ≡ i → take (length fields) constructors ≡ numbered 0 sizes fields
    ended all =
        let none = drop_all i fields (omega arith) in
        ap (λ n. take n constructors) all
        ∙ sym (append-nil (take i constructors))
        ∙ ap (λ l. take i constructors ++ l) (sym (ap (numbered of (left ∷ drop (of + 1) sizes)) none ∙ numbered-none of (left ∷ drop (of + 1) sizes)))
        ∙ before.goes
