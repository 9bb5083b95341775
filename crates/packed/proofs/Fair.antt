-- What the limits of a description say of its sizes and its constructors.
use Rattle.std.proofs.Common.{◌≡◌, ℕ, zero, suc, ◌+◌, ◌<◌, ◌≤◌, Bool, true, false, cond, ◌&&◌, eqb, ltb, leb, List, [], ◌∷◌, map, length, take, drop, is_some, IfSome, Some, None, Option, sym, refl, ap, ◌∙◌, arith}
use Rattle.std.specs.List.{slice_get}
use Rattle.std.proofs.lemmas.Bool.{true≢false, and_parts, leb-true, ltb-true, eqb-true, eq-eqb, cond-true}
use Rattle.packed.specs.declared.constructor.Constructor.{Constructor}
use Rattle.packed.specs.declared.constructor.Fields.{Fields}
use Rattle.packed.specs.declared.constructor.Limit.TheVariants as limit
use Rattle.packed.specs.Forms.{either, form_at, all, fair, total, size_limit, fields_limit, limit_of, fields_in}

-- a test whose failing refuses, where nothing is refused
passed : {A : Type 0} (test : Bool) (o : Option A) (x : A) → is_some (cond test o (Some x)) ≡ false → (test ≡ true) × (is_some o ≡ false)
passed true o x h = (refl, h)
passed false o x h = absurd (true≢false h)

both-none : {A : Type 0} (o p : Option A) → is_some (either o p Some) ≡ false → (is_some o ≡ false) × (is_some p ≡ false)
both-none None p h = (refl, h)
both-none (Some x) p h = absurd (true≢false h)

-- the limits that a description keeps
pub record Kept (sizes : List ℕ) (fs : List Fields) : Type 0 where
  pub some : 1 ≤ length sizes
  pub few : length sizes ≤ 16
  pub sized : is_some (size_limit 0 sizes) ≡ false
  pub count : total sizes ≡ length fs
  pub most : length fs ≤ 64
  pub each : is_some (fields_limit (length sizes) 0 fs) ≡ false

pub limits : (sizes : List ℕ) (fs : List Fields) → is_some (limit_of sizes fs) ≡ false → Kept sizes fs
limits sizes fs h =
    let n = length sizes in
    let whole = cond (eqb (total sizes) (length fs) && leb (length fs) 64) (fields_limit n 0 fs) (Some limit.ConstructorCount) in
    let types = passed (leb 1 n && leb n 16) (either (size_limit 0 sizes) whole Some) limit.TypeCount h in
    let parts = both-none (size_limit 0 sizes) whole types.1 in
    let counts = passed (eqb (total sizes) (length fs) && leb (length fs) 64) (fields_limit n 0 fs) limit.ConstructorCount parts.1 in
    let bounds = and_parts (leb 1 n) (leb n 16) types.0 in
    let agree = and_parts (eqb (total sizes) (length fs)) (leb (length fs) 64) counts.0 in
    record {
      some = leb-true 1 n bounds.0;
      few = leb-true n 16 bounds.1;
      sized = parts.0;
      count = eqb-true (total sizes) (length fs) agree.0;
      most = leb-true (length fs) 64 agree.1;
      each = counts.1;
    }

-- each size is one of 1 to 16
pub sizes-at : (t : ℕ) (sizes : List ℕ) (j n : ℕ) → is_some (size_limit t sizes) ≡ false → slice_get sizes j ≡ Some n → (1 ≤ n) × (n ≤ 16)
sizes-at t [] j n h e = absurd (let z : ◌≡◌ {A = ℕ} 0 1 = cc in omega arith)
sizes-at t (m ∷ ms) zero n h e =
    let p = passed (leb 1 m && leb m 16) (size_limit (t + 1) ms) (limit.TypeSize t) h in
    let q = and_parts (leb 1 m) (leb m 16) p.0 in
    let same : m ≡ n = cc in
    (omega (arith, leb-true 1 m q.0), omega (arith, leb-true m 16 q.1))
sizes-at t (m ∷ ms) (suc j) n h e = sizes-at (t + 1) ms j n (passed (leb 1 m && leb m 16) (size_limit (t + 1) ms) (limit.TypeSize t) h).1 e

-- the fields of each constructor are fair
pub fair-at : (types i : ℕ) (fs : List Fields) (j : ℕ) (f : Fields) → is_some (fields_limit types i fs) ≡ false → slice_get fs j ≡ Some f → fair types f ≡ true
fair-at types i [] j f h e = absurd (let z : ◌≡◌ {A = ℕ} 0 1 = cc in omega arith)
fair-at types i (g ∷ gs) zero f h e =
    let p = passed (fair types g) (fields_limit types (i + 1) gs) (limit.Constructor i) h in
    let same : g ≡ f = cc in
    ap (fair types) (sym same) ∙ p.0
fair-at types i (g ∷ gs) (suc j) f h e = fair-at types (i + 1) gs j f (passed (fair types g) (fields_limit types (i + 1) gs) (limit.Constructor i) h).1 e

all-at : {A : Type 0} (test : A → Bool) (xs : List A) (j : ℕ) (x : A) → all test xs ≡ true → slice_get xs j ≡ Some x → test x ≡ true
all-at test [] j x h e = absurd (let z : ◌≡◌ {A = ℕ} 0 1 = cc in omega arith)
all-at test (y ∷ ys) zero x h e = let same : y ≡ x = cc in ap test (sym same) ∙ (and_parts (test y) (all test ys) h).0
all-at test (y ∷ ys) (suc j) x h e = all-at test ys j x (and_parts (test y) (all test ys) h).1 e

-- what fair fields are to who reads them
pub record Fair (types : ℕ) (f : Fields) : Type 0 where
  pub integers : f.integers ≤ 4
  pub subtrees : f.subtrees ≤ 4
  pub known : (t j : ℕ) → slice_get (take f.subtrees f.types) j ≡ Some t → t < types

pub fair-parts : (types : ℕ) (f : Fields) → fair types f ≡ true → Fair types f
fair-parts types f h =
    let a = leb f.integers 4 in
    let b = leb f.subtrees 4 in
    let named = all (λ t. ltb t types) (take f.subtrees f.types) in
    let blank = all (λ t. eqb t 255) (drop f.subtrees f.types) in
    let front = and_parts (a && b && named) blank h in
    let head = and_parts (a && b) named front.0 in
    let counts = and_parts a b head.0 in
    record {
      integers = leb-true f.integers 4 counts.0;
      subtrees = leb-true f.subtrees 4 counts.1;
      known = λ t j e. ltb-true t types (all-at (λ u. ltb u types) (take f.subtrees f.types) j t head.1 e);
    }

pub nth-map : {A B : Type 0} (f : A → B) (xs : List A) (j : ℕ) (x : A) → slice_get xs j ≡ Some x → slice_get (map f xs) j ≡ Some (f x)
nth-map f [] j x h = absurd (let z : ◌≡◌ {A = ℕ} 0 1 = cc in omega arith)
nth-map f (y ∷ ys) zero x h = cc
nth-map f (y ∷ ys) (suc j) x h = nth-map f ys j x h

-- every constructor of a description that keeps the limits has fair fields
pub forms-fair : (sizes : List ℕ) (g : List Constructor) → is_some (limit_of sizes (fields_in g)) ≡ false → (b : ℕ) (c : Constructor) → slice_get g b ≡ Some c → Fair (length sizes) c.fields
forms-fair sizes g h b c e =
    fair-parts (length sizes) c.fields
    (fair-at (length sizes) 0 (fields_in g) b c.fields (limits sizes (fields_in g) h).each (nth-map (λ d. d.fields) g b c e))

-- a constructor that there is has few integers and few subtrees
pub few-fields : (sizes : List ℕ) (g : List Constructor) → is_some (limit_of sizes (fields_in g)) ≡ false → (b : ℕ) → IfSome (slice_get g b) (λ c. (c.fields.integers ≤ 4) × (c.fields.subtrees ≤ 4))
few-fields sizes g h b = found (slice_get g b) refl
  where
    found : (o : Option Constructor) → slice_get g b ≡ o → IfSome o (λ c. (c.fields.integers ≤ 4) × (c.fields.subtrees ≤ 4))
    found None e = tt
    found (Some c) e = let fair = forms-fair sizes g h b c e in (fair.integers, fair.subtrees)

-- the constructor numbered b, where it is one of type t
typed : (t : ℕ) (o : Option Constructor) (c : Constructor) → either o None (λ d. cond (eqb d.of t) (Some d) None) ≡ Some c → (o ≡ Some c) × (c.of ≡ t)
typed t None c h = absurd (let z : ◌≡◌ {A = ℕ} 0 1 = cc in omega arith)
typed t (Some d) c h = at_test (eqb d.of t) refl h
  where
    at_test : (test : Bool) → eqb d.of t ≡ test → cond test (Some d) None ≡ Some c → (Some d ≡ Some c) × (c.of ≡ t)
    at_test false p q = absurd (let z : ◌≡◌ {A = ℕ} 0 1 = cc in omega arith)
    at_test true p q = let same : d ≡ c = cc in (q, ap (λ x. x.of) (sym same) ∙ eqb-true d.of t p)

pub form-named : (g : List Constructor) (t b : ℕ) (c : Constructor) → form_at g t b ≡ Some c → (slice_get g b ≡ Some c) × (c.of ≡ t)
form-named g t b c h = typed t (slice_get g b) c h

pub form_of : (g : List Constructor) (t b : ℕ) (c : Constructor) → slice_get g b ≡ Some c → c.of ≡ t → form_at g t b ≡ Some c
form_of g t b c h e = ap (λ o. either o None (λ d. cond (eqb d.of t) (Some d) None)) h ∙ cond-true (eqb c.of t) (Some c) None (eq-eqb c.of t e)
