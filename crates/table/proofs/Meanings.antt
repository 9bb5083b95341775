-- Layer 2, first part, test by test.
use Rattle.std.proofs.Common.{◌≡◌, ℕ, ◌-◌, ◌*◌, eqb, List, length, get_or, take, drop, Ok, Err, sym, ap, ◌∙◌, zero-add, arith}
use Rattle.std.proofs.lemmas.List.{length-take, length-drop, length-take-le}
use Rattle.packed.specs.declared.fault.Reason.TheVariants as reason
use Rattle.packed.specs.declared.shapes.Shapes.{Shapes}
use Rattle.packed.specs.Forms.{either, limit_of, numbered}
use Rattle.packed.specs.Shaped.{forms_of, sizes_of}
use Rattle.table.specs.declared.function.Function.{Function}
use Rattle.table.specs.declared.section.Section.{Section}
use Rattle.table.specs.declared.section.Layout.{Layout}
use Rattle.table.specs.Rows.{row_of}
use Rattle.packed.specs.Faults.{given}
use Rattle.table.specs.Sections.{within}
use Rattle.table.specs.Laid.{Lies, Laid}
use Rattle.table.specs.Meaning.{Terms, fair_row, first_unfair}
use Rattle.table.specs.Order.{rows_from}
use Rattle.table.proofs.Laying.{onward-ok}
use Rattle.table.proofs.Judging.{all-fair-at}
use Rattle.table.proofs.Rowing.{rows_all, row-from-test}
use Rattle.table.specs.Table.{sizes_in, constructors_in, functions_in, fair_function_at, fair_row_at, terms_in, limit_fault, meaning_of}

pub length-within : (width : ℕ) (bs : List ℕ) (at : ℕ) (s : Section) → Lies width bs at s → length (within bs s) ≡ s.count * width
length-within width bs at s l =
    let a = length-take (s.end - s.start) (drop s.start bs) in
    let b = length-drop s.start bs in
    let e = l.ends in
    let i = l.inside in
    omega arith

module _ (bs : List ℕ) (l : Layout) (fine : Laid bs l) where
  -- shapes made of the table's types and constructors are what rows refer to
  module _ (s : Shapes) (sizes : sizes_of s ≡ sizes_in bs l) (forms : forms_of s ≡ numbered 0 (sizes_in bs l) (constructors_in bs l)) where
    pub types_same : s.types ≡ l.types.count
    types_same =
        let a : length (sizes_of s) ≡ s.types = length-take-le s.types s.sizes (let r = s.room in let u = s.used in omega arith) in
        let b = length-within 1 bs 1 l.types fine.types in
        let c = ap length sizes in
        omega arith

    pub terms-same : (functions : List Function) → functions ≡ functions_in bs l → ◌≡◌ {A = Terms} (record { types = s.types; forms = forms_of s; functions = functions }) (terms_in bs l)
    terms-same functions f = λ i. record { types = types_same i; forms = forms i; functions = f i }

  -- in a table whose numbers have meaning every row is one
  pub meaning-whole : (u : Unit {0}) → meaning_of bs l ≡ Ok u → length (rows_from l.rows.count (within bs l.rows)) ≡ l.rows.count
  meaning-whole u e =
      let a = onward-ok (given (eqb (get_or bs 0 0) 1) reason.Meaning 2 0) _ u e in
      let b = onward-ok (either (limit_of (sizes_in bs l) (constructors_in bs l)) (Ok (tt {0})) (λ b. Err (limit_fault l b))) _ u a.2 in
      let c = onward-ok (first_unfair (fair_function_at bs l) l.functions.start 8 0 l.functions.count) _ u b.2 in
      rows_all l.rows.count (within bs l.rows) (λ k h.
      row-from-test (row_of (take 16 (drop (k * 16) (within bs l.rows)))) (fair_row (terms_in bs l))
      (ap (fair_row_at bs l) (sym (zero-add k)) ∙ all-fair-at (fair_row_at bs l) l.rows.start 16 0 l.rows.count u c.2 k h))
