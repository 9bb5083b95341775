-- Layer 2, first part: numbers that have a fixed meaning. Names and row numbers are not looked at here.
use Rattle.std.specs.Prelude.{◌≡◌, ℕ, zero, suc, ◌+◌, ◌*◌, ◌<◌, Bool, true, false, not, ◌&&◌, ◌||◌, List, [], ◌∷◌, take, drop, Ok, Option, MatchOption, Result, ◌==◌, nat_eq, nat_le, nat_lt, slice_index}
use Rattle.std.specs.List.{list_all, slice_get}
use Rattle.packed.specs.declared.constructor.Constructor.{Constructor}
use Rattle.packed.specs.declared.constructor.Fields.{Fields}
use Rattle.packed.specs.declared.fault.Fault.{Fault}
use Rattle.packed.specs.declared.fault.Reason.TheVariants as reason
use Rattle.packed.specs.Forms.{either}
use Rattle.table.specs.declared.function.Function.{Function}
use Rattle.table.specs.declared.row.Row.{Row}
use Rattle.table.specs.declared.row.Row.TheVariants as row
use Rattle.table.specs.Rows.{word}
use Rattle.packed.specs.Faults.{given}
use Rattle.table.specs.Sections.{onward, in_range}

-- `count` records of one width, by what their bytes describe
abbrev pub records_from : {A : Type 0} → ℕ → (List ℕ → A) → ℕ → List ℕ → List A
records_from width describes zero bs = []
records_from width describes (suc count) bs = describes (take width bs) ∷ records_from width describes count (drop width bs)

-- six bytes describe a constructor, eight a function
abbrev pub fields_of : List ℕ → Fields
fields_of bs = record { integers = slice_index bs 0; subtrees = slice_index bs 1; types = slice_index bs 2 ∷ slice_index bs 3 ∷ slice_index bs 4 ∷ slice_index bs 5 ∷ [] }

abbrev pub function_of : List ℕ → Function
function_of bs = record { parameters = slice_index bs 0; kinds = slice_index bs 1 ∷ slice_index bs 2 ∷ slice_index bs 3 ∷ slice_index bs 4 ∷ []; result = slice_index bs 5; first = word bs 6 }

-- a kind is a type, or 254 for an integer
abbrev pub is_kind : ℕ → ℕ → Bool
is_kind types t = nat_lt t types || t == 254

abbrev pub unused : List ℕ → Bool
unused bs = list_all (λ b. nat_eq b 255) bs

-- main has no parameter, or one tree
abbrev pub main_like : ℕ → Function → Bool
main_like types f = f.parameters == 0 || (f.parameters == 1 && nat_lt (slice_index f.kinds 0) types)

abbrev pub fair_function : ℕ → ℕ → Function → Bool
fair_function types number f =
    nat_le f.parameters 4
    && list_all (is_kind types) (take f.parameters f.kinds)
    && unused (drop f.parameters f.kinds)
    && is_kind types f.result
    && (not (number == 0) || main_like types f)

-- what rows refer to
pub record Terms : Type 0 where
  pub types : ℕ
  pub forms : List Constructor
  pub functions : List Function

abbrev pub fair_form : Constructor → List ℕ → Bool
fair_form c vs = unused (drop (c.fields.integers + c.fields.subtrees) vs)

abbrev pub fair_call : Function → ℕ → List ℕ → Bool
fair_call f l vs = unused (drop f.parameters vs) && (not (f.result == 254) || l == 255)

abbrev pub fair_branch : Constructor → ℕ → ℕ → Bool
fair_branch c x0 l0 = (nat_lt 0 (c.fields.integers + c.fields.subtrees) || x0 == 0) && (nat_lt 0 c.fields.subtrees || l0 == 0)

abbrev pub fair_row : Terms → Row → Bool
fair_row t (row.Region r room) = in_range 1 room 32768
fair_row t (row.Past l m k) = nat_le k 4
fair_row t (row.After l m ty) = nat_lt ty t.types
fair_row t (row.Construct form l v0 v1 v2 v3 v4 v5 v6 v7) = either (slice_get t.forms form) false (λ c. fair_form c (v0 ∷ v1 ∷ v2 ∷ v3 ∷ v4 ∷ v5 ∷ v6 ∷ v7 ∷ []))
fair_row t (row.Let x kind l start) = is_kind t.types kind && (not (kind == 254) || l == 255)
fair_row t (row.Call f l v0 v1 v2 v3) = either (slice_get t.functions f) false (λ g. fair_call g l (v0 ∷ v1 ∷ v2 ∷ v3 ∷ []))
fair_row t (row.Branch form x0 l0 next) = either (slice_get t.forms form) false (λ c. fair_branch c x0 l0)
fair_row t _ = true

-- the first record that is not fair, of `count` from number i on
abbrev pub first_unfair : (ℕ → Bool) → ℕ → ℕ → ℕ → ℕ → Result (Unit {0}) Fault
first_unfair fair start width i zero = Ok tt
first_unfair fair start width i (suc count) = onward (given (fair i) reason.Meaning 2 (start + i * width)) (λ _. first_unfair fair start width (i + 1) count)

-- what record n of one width describes
abbrev pub record_at : {A : Type 0} → ℕ → (List ℕ → A) → List ℕ → ℕ → A
record_at width describes bs n = describes (take width (drop (n * width) bs))

-- Judged described answers fair count: of each of `count` records, whether it is fair is what a judge answers of the item that
-- it describes; one that describes none is not fair.
abbrev pub Judged : {A : Type 0} → (ℕ → Option A) → (ℕ → A → Bool → Type 0) → (ℕ → Bool) → ℕ → Type 0
Judged described answers fair count = (i : ℕ) → i < count → MatchOption (described i) (fair i ≡ false) (λ x. (b : Bool) → answers i x b → b ≡ fair i)
