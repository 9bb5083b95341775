-- Descriptions of types: the limits that they keep, and the constructors that they number.
use Rattle.std.specs.Prelude.{ℕ, ◌+◌, Bool, cond, ◌&&◌, List, [], ◌∷◌, ◌++◌, map, length, take, drop, Some, None, Option, ◌==◌, nat_eq, nat_le, nat_lt}
use Rattle.std.specs.List.{slice_get, list_all}
use Rattle.packed.specs.declared.constructor.Constructor.{Constructor}
use Rattle.packed.specs.declared.constructor.Fields.{Fields}
use Rattle.packed.specs.declared.constructor.Limit.{Limit}
use Rattle.packed.specs.declared.constructor.Limit.TheVariants as limit

-- what follows from an option: one answer for none, another for a value
abbrev pub either : {A B : Type 0} → Option A → B → (A → B) → B
either None none some = none
either (Some x) none some = some x

-- the types of a constructor's subtrees, in order
abbrev pub subtrees : Constructor → List ℕ
subtrees c = take c.fields.subtrees c.fields.types

-- the constructor numbered b, where it is one of type t
abbrev pub form_at : List Constructor → ℕ → ℕ → Option Constructor
form_at g t b = either (slice_get g b) None (λ c. cond (c.of == t) (Some c) None)

-- the constructors of the types from t on: each type in turn has as many as its size says
abbrev pub numbered : ℕ → List ℕ → List Fields → List Constructor
numbered t [] fs = []
numbered t (n ∷ ns) fs = map (λ f. record { of = t; fields = f }) (take n fs) ++ numbered (t + 1) ns (drop n fs)

abbrev pub all : {A : Type 0} → (A → Bool) → List A → Bool
all test xs = list_all test xs

-- up to four integers and four subtrees, each of one of the types, and 255 in the places behind
abbrev pub fair : ℕ → Fields → Bool
fair types f = nat_le f.integers 4 && nat_le f.subtrees 4 && all (λ t. nat_lt t types) (take f.subtrees f.types) && all (λ t. nat_eq t 255) (drop f.subtrees f.types)

abbrev pub total : List ℕ → ℕ
total [] = 0
total (n ∷ ns) = n + total ns

-- the first type, from t on, that has not 1 to 16 constructors
abbrev pub size_limit : ℕ → List ℕ → Option Limit
size_limit t [] = None
size_limit t (n ∷ ns) = cond (nat_le 1 n && nat_le n 16) (size_limit (t + 1) ns) (Some (limit.TypeSize t))

-- the first constructor, from i on, whose fields are not fair
abbrev pub fields_limit : ℕ → ℕ → List Fields → Option Limit
fields_limit types i [] = None
fields_limit types i (f ∷ fs) = cond (fair types f) (fields_limit types (i + 1) fs) (Some (limit.Constructor i))

-- the first limit that a description breaks, if any
abbrev pub limit_of : List ℕ → List Fields → Option Limit
limit_of sizes fs =
    cond (nat_le 1 (length sizes) && nat_le (length sizes) 16)
    (either (size_limit 0 sizes)
    (cond (total sizes == length fs && nat_le (length fs) 64) (fields_limit (length sizes) 0 fs) (Some limit.ConstructorCount))
    Some)
    (Some limit.TypeCount)

abbrev pub fields_in : List Constructor → List Fields
fields_in g = map (λ c. c.fields) g
