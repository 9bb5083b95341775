-- What was written is read back.
use Rattle.std.proofs.Common.{◌≡◌, ℕ, zero, suc, ◌+◌, ◌-◌, ◌*◌, ◌/◌, ◌%◌, ◌≤◌, List, [], ◌∷◌, ◌++◌, length, get_or, take, drop, Some, Ok, Result, sym, refl, ap, ◌∙◌, suc-mul, zero-mul, arith}
use Rattle.std.specs.List.{slice_get}
use Rattle.std.proofs.lemmas.List.{append_assoc, append-nil, length-append, take_at, drop_at, drop-drop, get_or-drop}
use Rattle.packed.specs.declared.constructor.Fields.{Fields}
use Rattle.packed.specs.declared.fault.Fault.{Fault}
use Rattle.packed.specs.Forms.{either}
use Rattle.packed.specs.Trees.{low}
use Rattle.table.specs.declared.function.Function.{Function}
use Rattle.table.specs.declared.row.Row.{Row}
use Rattle.table.specs.declared.section.Layout.{Layout}
use Rattle.table.specs.declared.section.Section.{Section}
use Rattle.table.specs.Encoding.{padded, row_bytes, spelled}
use Rattle.table.specs.Laid.{Lies}
use Rattle.table.specs.First.{Whole}
use Rattle.table.specs.Meaning.{fields_of, function_of, records_from}
use Rattle.table.specs.Order.{rows_from}
use Rattle.table.specs.Rows.{row_of, word}
use Rattle.table.specs.Sections.{within}
use Rattle.table.specs.Writing.{fields_bytes, function_bytes, ReadsBack, section_bytes, spelt, table_bytes, table_length}
use Rattle.table.proofs.Forming.{formed, whole_of, whole-on}

pub length-padded : (n : ℕ) (bs : List ℕ) → length (padded n bs) ≡ n
length-padded zero bs = refl
length-padded (suc n) [] = ap suc (length-padded n [])
length-padded (suc n) (b ∷ bs) = ap suc (length-padded n bs)

-- records of one width
module _ {A : Type 0} (width : ℕ) (spell : A → List ℕ) (wide : (x : A) → length (spell x) ≡ width) where
  pub length-spelt : (xs : List A) → length (spelt spell xs) ≡ length xs * width
  length-spelt [] = sym (zero-mul width)
  length-spelt (x ∷ xs) =
      let a = length-append (spell x) (spelt spell xs) in
      let b = wide x in
      let c = length-spelt xs in
      let d = suc-mul (length xs) width in
      omega arith

  take-spelt : (x : A) (xs : List A) → take width (spelt spell (x ∷ xs)) ≡ spell x
  take-spelt x xs = take_at (spell x) (spelt spell xs) width (wide x)

  drop-spelt : (x : A) (xs : List A) → drop width (spelt spell (x ∷ xs)) ≡ spelt spell xs
  drop-spelt x xs = drop_at (spell x) (spelt spell xs) width (wide x)

  pub records-spelt : (describes : List ℕ → A) (xs : List A) → ((k : ℕ) (x : A) → slice_get xs k ≡ Some x → describes (spell x) ≡ x) → records_from width describes (length xs) (spelt spell xs) ≡ xs
  records-spelt describes [] back = refl
  records-spelt describes (x ∷ xs) back = λ i.
      (ap describes (take-spelt x xs) ∙ back 0 x refl) i
      ∷ (ap (records_from width describes (length xs)) (drop-spelt x xs) ∙ records-spelt describes xs (λ k y e. back (suc k) y e)) i

row-wide : (r : Row) → length (row_bytes r) ≡ 16
row-wide r = length-padded 16 (spelled r)

rows-spelt : (rs : List Row) → ((k : ℕ) (r : Row) → slice_get rs k ≡ Some r → row_of (row_bytes r) ≡ Some r) → rows_from (length rs) (spelt row_bytes rs) ≡ rs
rows-spelt [] back = refl
rows-spelt (r ∷ rs) back =
    ap (λ o. either o [] (λ q. q ∷ rows_from (length rs) (drop 16 (spelt row_bytes (r ∷ rs))))) (ap row_of (take-spelt 16 row_bytes row-wide r rs) ∙ back 0 r refl)
    ∙ ap (λ l. r ∷ l) (ap (rows_from (length rs)) (drop-spelt 16 row_bytes row-wide r rs) ∙ rows-spelt rs (λ k q e. back (suc k) q e))

-- bytes have one layout
one_ok : (l m : Layout) → ◌≡◌ {A = Result Layout Fault} (Ok l) (Ok m) → l ≡ m
one_ok l m e = cc

one-layout : (bs : List ℕ) (l m : Layout) → Whole bs l → Whole bs m → l ≡ m
one-layout bs l m a b = one_ok l m (sym (whole-on bs l a) ∙ whole-on bs m b)

-- the section whose count stands at a place
abbrev section_at : ℕ → ℕ → ℕ → Section
section_at width at n = record { start = at + 2; count = n; end = at + 2 + n * width }

-- a count and its records, behind other bytes
module _ (width : ℕ) (bs p body rest : List ℕ) (n at : ℕ) (is : bs ≡ p ++ ((low 2 n ++ body) ++ rest)) (long : length p ≡ at) (few : n ≤ 65535) (sized : length body ≡ n * width) where
  behind : drop at bs ≡ (n % 256) ∷ (n / 256 % 256) ∷ (body ++ rest)
  behind = ap (drop at) is ∙ drop_at p ((low 2 n ++ body) ++ rest) at long

  body_at : drop (at + 2) bs ≡ body ++ rest
  body_at = sym (drop-drop 2 at bs) ∙ ap (drop 2) behind

  count_at : word bs at ≡ n
  count_at =
      let here : at ≡ at + 0 = omega arith in
      let a : get_or bs at 0 ≡ n % 256 = ap (λ k. get_or bs k 0) here ∙ sym (get_or-drop at bs 0 0) ∙ ap (λ l. get_or l 0 0) behind in
      let b : get_or bs (at + 1) 0 ≡ n / 256 % 256 = sym (get_or-drop at bs 1 0) ∙ ap (λ l. get_or l 1 0) behind in
      omega arith

  pub section-lies-at : Lies width bs at (section_at width at n)
  section-lies-at =
      record {
        starts = refl;
        counted = sym count_at;
        ends = refl;
        inside = (
            let a = ap length is in
            let b = length-append p ((low 2 n ++ body) ++ rest) in
            let c = length-append body rest in
            omega arith);
      }

  pub section-within : within bs (section_at width at n) ≡ body
  section-within =
      let k : at + 2 + n * width - (at + 2) ≡ n * width = omega arith in
      ap (λ m. take m (drop (at + 2) bs)) k
      ∙ ap (take (n * width)) body_at
      ∙ take_at body rest (n * width) sized

module _ (sizes : List ℕ) (fields : List Fields) (functions : List Function) (rows : List Row) where
  abbrev types : List ℕ
  types = low 2 (length sizes) ++ sizes

  abbrev constructors : List ℕ
  constructors = section_bytes fields_bytes fields

  abbrev declared : List ℕ
  declared = section_bytes function_bytes functions

  abbrev described : List ℕ
  described = section_bytes row_bytes rows

  abbrev bytes : List ℕ
  bytes = table_bytes sizes fields functions rows

  abbrev constructors-at : ℕ
  constructors-at = 1 + 2 + length sizes * 1

  abbrev functions-at : ℕ
  functions-at = constructors-at + 2 + length fields * 6

  abbrev rows_at : ℕ
  rows_at = functions-at + 2 + length functions * 8

  before-functions : length ((1 ∷ types) ++ constructors) ≡ functions-at
  before-functions =
      let a = length-append (1 ∷ types) constructors in
      let b = length-spelt 6 fields_bytes (λ f. refl) fields in
      omega arith

  before-rows : length (((1 ∷ types) ++ constructors) ++ declared) ≡ rows_at
  before-rows =
      let a = length-append ((1 ∷ types) ++ constructors) declared in
      let b = before-functions in
      let c = length-spelt 8 function_bytes (λ f. refl) functions in
      omega arith

  at-functions : bytes ≡ ((1 ∷ types) ++ constructors) ++ (declared ++ described)
  at-functions = sym (append_assoc (1 ∷ types) constructors (declared ++ described))

  pub table-word : (((1 ∷ types) ++ constructors) ++ declared) ++ described ≡ bytes
  table-word = append_assoc ((1 ∷ types) ++ constructors) declared described ∙ sym at-functions

  at_rows : bytes ≡ (((1 ∷ types) ++ constructors) ++ declared) ++ (described ++ [])
  at_rows = at-functions ∙ sym (append_assoc ((1 ∷ types) ++ constructors) declared described) ∙ ap (λ l. (((1 ∷ types) ++ constructors) ++ declared) ++ l) (sym (append-nil described))

  all-bytes : length bytes ≡ rows_at + 2 + length rows * 16
  all-bytes =
      let a = ap length at-functions ∙ ap length (sym (append_assoc ((1 ∷ types) ++ constructors) declared described)) in
      let b = length-append (((1 ∷ types) ++ constructors) ++ declared) described in
      let c = before-rows in
      let d = length-spelt 16 row_bytes row-wide rows in
      omega arith

  pub length-table : length bytes ≡ table_length sizes fields functions rows
  length-table = let a = all-bytes in omega arith

  module _ (few-types : length sizes ≤ 65535) (few-fields : length fields ≤ 65535) (few-functions : length functions ≤ 65535) (few-rows : length rows ≤ 65535) where
    abbrev layout : Layout
    layout = record { types = section_at 1 1 (length sizes); constructors = section_at 6 constructors-at (length fields); functions = section_at 8 functions-at (length functions); rows = section_at 16 rows_at (length rows) }

    types_long : length sizes ≡ length sizes * 1
    types_long = omega arith

    constructors-long : length (1 ∷ types) ≡ constructors-at
    constructors-long = omega arith

    whole : Whole bytes layout
    whole = record {
      some = omega arith;
      types = section-lies-at 1 bytes (1 ∷ []) sizes (constructors ++ (declared ++ described)) (length sizes) 1 refl refl few-types types_long;
      constructors = section-lies-at 6 bytes (1 ∷ types) (spelt fields_bytes fields) (declared ++ described) (length fields) constructors-at refl constructors-long few-fields (length-spelt 6 fields_bytes (λ f. refl) fields);
      functions = section-lies-at 8 bytes ((1 ∷ types) ++ constructors) (spelt function_bytes functions) described (length functions) functions-at at-functions before-functions few-functions (length-spelt 8 function_bytes (λ f. refl) functions);
      rows = section-lies-at 16 bytes (((1 ∷ types) ++ constructors) ++ declared) (spelt row_bytes rows) [] (length rows) rows_at at_rows before-rows few-rows (length-spelt 16 row_bytes row-wide rows);
    }

    pub reads-back : ((k : ℕ) (f : Fields) → slice_get fields k ≡ Some f → fields_of (fields_bytes f) ≡ f) → ((k : ℕ) (f : Function) → slice_get functions k ≡ Some f → function_of (function_bytes f) ≡ f) → ((k : ℕ) (r : Row) → slice_get rows k ≡ Some r → row_of (row_bytes r) ≡ Some r) → ReadsBack sizes fields functions rows bytes
    reads-back back_Fields back-functions back-rows = record {
      edition = refl;
      layout = layout;
      sections = whole-on bytes layout whole;
      all = sym all-bytes;
      read = λ l e. one-layout bytes l layout (whole_of bytes l (formed bytes l e).laid) whole;
      types = section-within 1 bytes (1 ∷ []) sizes (constructors ++ (declared ++ described)) (length sizes) 1 refl refl few-types types_long;
      constructors =
          ap (records_from 6 fields_of (length fields)) (section-within 6 bytes (1 ∷ types) (spelt fields_bytes fields) (declared ++ described) (length fields) constructors-at refl constructors-long few-fields (length-spelt 6 fields_bytes (λ f. refl) fields))
          ∙ records-spelt 6 fields_bytes (λ f. refl) fields_of fields back_Fields;
      declared =
          ap (records_from 8 function_of (length functions)) (section-within 8 bytes ((1 ∷ types) ++ constructors) (spelt function_bytes functions) described (length functions) functions-at at-functions before-functions few-functions (length-spelt 8 function_bytes (λ f. refl) functions))
          ∙ records-spelt 8 function_bytes (λ f. refl) function_of functions back-functions;
      described =
          ap (rows_from (length rows)) (section-within 16 bytes (((1 ∷ types) ++ constructors) ++ declared) (spelt row_bytes rows) [] (length rows) rows_at at_rows before-rows few-rows (length-spelt 16 row_bytes row-wide rows))
          ∙ rows-spelt rows back-rows;
    }
