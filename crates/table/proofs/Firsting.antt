-- The fault that is named is the first.
use Rattle.std.proofs.Common.{◌≡◌, ℕ, zero, suc, ◌+◌, ◌-◌, ◌*◌, ◌/◌, ◌<◌, ◌≤◌, Bool, true, false, cond, ◌&&◌, eqb, leb, ◌⊎◌, List, map, length, get_or, Some, None, Ok, Err, Option, Result, sym, refl, ap, ◌∙◌, subst, inl, inr, le-div_iff_mul-le, zero-add, div-mul-le_self, arith}
use Rattle.std.proofs.lemmas.Bool.{leb-true, leb-false, eqb-true, eqb-false, and_cases, and_parts}
use Rattle.packed.specs.declared.fault.Fault.{Fault}
use Rattle.packed.specs.declared.fault.Reason.{Reason}
use Rattle.packed.specs.declared.fault.Reason.TheVariants as reason
use Rattle.packed.specs.Forms.{total, either, limit_of}
use Rattle.table.specs.declared.section.Section.{Section}
use Rattle.table.specs.declared.section.Layout.{Layout}
use Rattle.table.specs.Rows.{word}
use Rattle.table.specs.Laid.{Laid}
use Rattle.packed.specs.Faults.{found, given}
use Rattle.table.specs.Sections.{onward, in_range, within, section_of, sections_of, counts_of, layout_of}
use Rattle.table.specs.Meaning.{first_unfair}
use Rattle.table.specs.Order.{disorder, bodies}
use Rattle.table.specs.Table.{sizes_in, constructors_in, functions_in, rows_in, fair_function_at, fair_row_at, limit_fault, meaning_of, order_of, table_of}
use Rattle.table.specs.First.{Reached, Whole, Miscounted, Unmeant, First}
use Rattle.table.specs.First.Reached.{types as reached-types, constructors as reached-constructors, functions as reached-functions, rows as reached-rows}
use Rattle.table.specs.First.Cut.{edition as cut-edition, count as cut-count, item as cut-item}
use Rattle.table.specs.First.Miscounted.{types as miscounted-types, sum as miscounted-sum, constructors as miscounted-constructors, functions as miscounted-functions, rows as miscounted-rows}
use Rattle.table.specs.First.Unmeant.{edition as unmeant-edition, form as unmeant-form, function as unmeant-function, row as unmeant-row}
use Rattle.table.specs.First.First.{ends as first_ends, behind as first-behind, count as first_count, meaning as first-meaning, order as first-order}
use Rattle.table.proofs.Laying.{onward-ok, given-ok, section-lies, sections-lie, laid}
use Rattle.table.proofs.Forming.{either-none}
use Rattle.table.proofs.Judging.{all-fair-at}
use Rattle.table.proofs.OrderFaults.{lowest}

-- what was refused was refused before, or behind something
onward-err : {A B : Type 0} (r : Result A Fault) (more : A → Result B Fault) (f : Fault) → onward r more ≡ Err f → (r ≡ Err f) ⊎ ((x : A) × (r ≡ Ok x) × (more x ≡ Err f))
onward-err (Ok x) more f e = inr (x, refl, e)
onward-err (Err g) more f e = let same : g ≡ f = cc in inl (ap Err same)

given-err : (test : Bool) (why : Reason) (layer p : ℕ) (f : Fault) → given test why layer p ≡ Err f → (test ≡ false) × (found why layer p ≡ f)
given-err true why layer p f e = absurd (grind arith)
given-err false why layer p f e = let same : found why layer p ≡ f = cc in (refl, same)

-- less is left than one record more would take
short : (n width : ℕ) → 0 < width → n < (n / width + 1) * width
short n width wide = go (leb ((n / width + 1) * width) n) refl
  where
    go : (v : Bool) → leb ((n / width + 1) * width) n ≡ v → n < (n / width + 1) * width
    go false e = leb-false ((n / width + 1) * width) n e
    go true e = let few = (le-div_iff_mul-le wide).1 (leb-true ((n / width + 1) * width) n e) in absurd (omega arith)

-- a section that is refused is cut
section-cut : (width : ℕ) (bs : List ℕ) (at : ℕ) (f : Fault) → 0 < width → Reached bs width at → at ≤ length bs → section_of width bs at ≡ Err f → First bs f
section-cut width bs at f wide here low e = first (leb (at + 2) (length bs)) refl e
  where
    first : (v : Bool) → leb (at + 2) (length bs) ≡ v → cond {A = Result Section Fault} v (cond (leb (word bs at) ((length bs - (at + 2)) / width)) (Ok (record { start = at + 2; count = word bs at; end = at + 2 + word bs at * width })) (Err (found reason.BytesEnd 1 (at + 2 + (length bs - (at + 2)) / width * width)))) (Err (found reason.BytesEnd 1 at)) ≡ Err f → First bs f
    first false k g =
        let same : found reason.BytesEnd 1 at ≡ f = cc in
        subst (First bs) same (first_ends (cut-count here low (leb-false (at + 2) (length bs) k)))
    first true k g = second (leb (word bs at) ((length bs - (at + 2)) / width)) refl g
      where
        second : (v : Bool) → leb (word bs at) ((length bs - (at + 2)) / width) ≡ v → cond {A = Result Section Fault} v (Ok (record { start = at + 2; count = word bs at; end = at + 2 + word bs at * width })) (Err (found reason.BytesEnd 1 (at + 2 + (length bs - (at + 2)) / width * width))) ≡ Err f → First bs f
        second true q g = absurd (grind arith)
        second false q g =
            let same : found reason.BytesEnd 1 (at + 2 + (length bs - (at + 2)) / width * width) ≡ f = cc in
            let fits = leb-true (at + 2) (length bs) k in
            let more = leb-false (word bs at) ((length bs - (at + 2)) / width) q in
            let a = div-mul-le_self (length bs - (at + 2)) width in
            let b = short (length bs - (at + 2)) width wide in
            subst (First bs) same (first_ends (cut-item here more (omega arith) (omega arith)))

-- sections that are refused are cut, each where all before it is whole
sections-cut : (bs : List ℕ) (f : Fault) → sections_of bs ≡ Err f → First bs f
sections-cut bs f e =
    elim (onward-err (given (leb 1 (length bs)) reason.BytesEnd 1 0) _ f e) [
      | inl none ↦ (
          let g = given-err (leb 1 (length bs)) reason.BytesEnd 1 0 f none in
          let h = leb-false 1 (length bs) g.0 in
          let nil : length bs ≡ 0 = omega arith in
          subst (First bs) g.1 (first_ends (cut-edition nil)))
      | inr a ↦ (
          let some : 1 ≤ length bs = leb-true 1 (length bs) (given-ok (leb 1 (length bs)) reason.BytesEnd 1 0 a.0 a.1) in
          let at-types : Reached bs 1 1 = reached-types some in
          elim (onward-err (section_of 1 bs 1) _ f a.2) [
            | inl bad ↦ section-cut 1 bs 1 f (omega arith) at-types some bad
            | inr t ↦ (
                let types = section-lies 1 bs 1 t.0 t.1 in
                let at-constructors : Reached bs 6 t.0.end = reached-constructors at-types types in
                elim (onward-err (section_of 6 bs t.0.end) _ f t.2) [
                  | inl bad ↦ section-cut 6 bs t.0.end f (omega arith) at-constructors types.inside bad
                  | inr c ↦ (
                      let constructors = section-lies 6 bs t.0.end c.0 c.1 in
                      let at-functions : Reached bs 8 c.0.end = reached-functions at-constructors constructors in
                      elim (onward-err (section_of 8 bs c.0.end) _ f c.2) [
                        | inl bad ↦ section-cut 8 bs c.0.end f (omega arith) at-functions constructors.inside bad
                        | inr g ↦ (
                            let functions = section-lies 8 bs c.0.end g.0 g.1 in
                            let at_rows : Reached bs 16 g.0.end = reached-rows at-functions functions in
                            elim (onward-err (section_of 16 bs g.0.end) _ f g.2) [
                              | inl bad ↦ section-cut 16 bs g.0.end f (omega arith) at_rows functions.inside bad
                              | inr r ↦ (let no = r.2 in absurd (grind arith))
                            ])
                      ])
                ])
          ])
    ]

-- counts that are refused are miscounted
counts-wrong : (bs : List ℕ) (l : Layout) (f : Fault) → counts_of bs l ≡ Err f → (s : Section) × Miscounted bs l s × (found reason.Count 1 (s.start - 2) ≡ f)
counts-wrong bs l f e =
    elim (onward-err (given (in_range 1 l.types.count 16) reason.Count 1 (l.types.start - 2)) _ f e) [
      | inl bad ↦ (let g = given-err (in_range 1 l.types.count 16) reason.Count 1 (l.types.start - 2) f bad in (l.types, miscounted-types g.0, g.1))
      | inr t ↦ (
          let few : in_range 1 l.types.count 16 ≡ true = given-ok (in_range 1 l.types.count 16) reason.Count 1 (l.types.start - 2) t.0 t.1 in
          elim (onward-err (given (eqb (total (within bs l.types)) l.constructors.count && leb l.constructors.count 64) reason.Count 1 (l.constructors.start - 2)) _ f t.2) [
            | inl bad ↦ (
                let g = given-err (eqb (total (within bs l.types)) l.constructors.count && leb l.constructors.count 64) reason.Count 1 (l.constructors.start - 2) f bad in
                elim (and_cases (eqb (total (within bs l.types)) l.constructors.count) (leb l.constructors.count 64) g.0) [
                  | inl other ↦ (l.constructors, miscounted-sum few (eqb-false (total (within bs l.types)) l.constructors.count other), g.1)
                  | inr many ↦ (l.constructors, miscounted-constructors few (leb-false l.constructors.count 64 many), g.1)
                ])
            | inr c ↦ (
                let sums = and_parts (eqb (total (within bs l.types)) l.constructors.count) (leb l.constructors.count 64) (given-ok _ reason.Count 1 (l.constructors.start - 2) c.0 c.1) in
                let said : total (within bs l.types) ≡ l.constructors.count = eqb-true (total (within bs l.types)) l.constructors.count sums.0 in
                let most : l.constructors.count ≤ 64 = leb-true l.constructors.count 64 sums.1 in
                elim (onward-err (given (in_range 1 l.functions.count 32) reason.Count 1 (l.functions.start - 2)) _ f c.2) [
                  | inl bad ↦ (let g = given-err (in_range 1 l.functions.count 32) reason.Count 1 (l.functions.start - 2) f bad in (l.functions, miscounted-functions few said most g.0, g.1))
                  | inr h ↦ (
                      let fine : in_range 1 l.functions.count 32 ≡ true = given-ok (in_range 1 l.functions.count 32) reason.Count 1 (l.functions.start - 2) h.0 h.1 in
                      let g = given-err (in_range 1 l.rows.count 1024) reason.Count 1 (l.rows.start - 2) f h.2 in
                      (l.rows, miscounted-rows few said most fine g.0, g.1))
                ])
          ])
    ]

-- a layout that is refused
layout-first : (bs : List ℕ) (f : Fault) → layout_of bs ≡ Err f → First bs f
layout-first bs f e =
    elim (onward-err (sections_of bs) _ f e) [
      | inl bad ↦ sections-cut bs f bad
      | inr s ↦ (
          let l : Layout = s.0 in
          let lie = sections-lie bs l s.1 in
          let whole : Whole bs l = record { some = lie.0; types = lie.1; constructors = lie.2; functions = lie.3; rows = lie.4 } in
          elim (onward-err (given (leb (length bs) l.rows.end) reason.BytesBehind 1 l.rows.end) _ f s.2) [
            | inl bad ↦ (
                let g = given-err (leb (length bs) l.rows.end) reason.BytesBehind 1 l.rows.end f bad in
                subst (First bs) g.1 (first-behind whole (leb-false (length bs) l.rows.end g.0)))
            | inr b ↦ (
                let all = leb-true (length bs) l.rows.end (given-ok (leb (length bs) l.rows.end) reason.BytesBehind 1 l.rows.end b.0 b.1) in
                let inside = lie.4.inside in
                let last : l.rows.end ≡ length bs = omega arith in
                elim (onward-err (counts_of bs l) _ f b.2) [
                  | inl bad ↦ (let w = counts-wrong bs l f bad in subst (First bs) w.2 (first_count whole last w.1))
                  | inr c ↦ (let no = c.2 in absurd (grind arith))
                ])
          ])
    ]

-- the record that is refused is not fair, and all before it are
unfair-first : (fair : ℕ → Bool) (start width i count : ℕ) (f : Fault) → first_unfair fair start width i count ≡ Err f → (k : ℕ) × (k < count) × (fair (i + k) ≡ false) × ((j : ℕ) → j < k → fair (i + j) ≡ true) × (found reason.Meaning 2 (start + (i + k) * width) ≡ f)
unfair-first fair start width i zero f e = absurd (grind arith)
unfair-first fair start width i (suc count) f e =
    elim (onward-err (given (fair i) reason.Meaning 2 (start + i * width)) (λ _. first_unfair fair start width (i + 1) count) f e) [
      | inl bad ↦ (
          let g = given-err (fair i) reason.Meaning 2 (start + i * width) f bad in
          let here : i + 0 ≡ i = omega arith in
          (0, omega arith, ap fair here ∙ g.0, λ j h. absurd (omega arith), ap (λ v. found reason.Meaning 2 (start + v * width)) here ∙ g.1))
      | inr a ↦ (
          let b = unfair-first fair start width (i + 1) count f a.2 in
          let k : ℕ = b.0 in
          let there : i + suc k ≡ i + 1 + k = omega arith in
          let low : k < count = b.1 in
          (suc k, omega arith, ap fair there ∙ b.2, before k (given-ok (fair i) reason.Meaning 2 (start + i * width) a.0 a.1) b.3, ap (λ v. found reason.Meaning 2 (start + v * width)) there ∙ b.4))
    ]
  where
    before : (k : ℕ) → fair i ≡ true → ((j : ℕ) → j < k → fair (i + 1 + j) ≡ true) → (j : ℕ) → j < suc k → fair (i + j) ≡ true
    before k here more zero h = let same : i + 0 ≡ i = omega arith in ap fair same ∙ here
    before k here more (suc j) h = let same : i + suc j ≡ i + 1 + j = omega arith in ap fair same ∙ more j (omega arith)

-- the same, from record 0 on
unfair-from-zero : (fair : ℕ → Bool) (start width count : ℕ) (f : Fault) → first_unfair fair start width 0 count ≡ Err f → (k : ℕ) × (k < count) × (fair k ≡ false) × ((j : ℕ) → j < k → fair j ≡ true) × (found reason.Meaning 2 (start + k * width) ≡ f)
unfair-from-zero fair start width count f e =
    let a = unfair-first fair start width 0 count f e in
    (a.0, a.1, ap fair (sym (zero-add a.0)) ∙ a.2, λ j h. ap fair (sym (zero-add j)) ∙ a.3 j h, ap (λ v. found reason.Meaning 2 (start + v * width)) (sym (zero-add a.0)) ∙ a.4)

all-from-zero : (fair : ℕ → Bool) (start width count : ℕ) (u : Unit {0}) → first_unfair fair start width 0 count ≡ Ok u → (k : ℕ) → k < count → fair k ≡ true
all-from-zero fair start width count u e k h = ap fair (sym (zero-add k)) ∙ all-fair-at fair start width 0 count u e k h

-- a refusal by what is there
either-some : {A : Type 0} (o : Option A) (g : A → Fault) (f : Fault) → either o (Ok (tt {0})) (λ b. Err (g b)) ≡ Err f → (b : A) × (o ≡ Some b) × (g b ≡ f)
either-some None g f e = absurd (grind arith)
either-some (Some b) g f e = let same : g b ≡ f = cc in (b, refl, same)

module _ (bs : List ℕ) (l : Layout) where
  abbrev place : ℕ → Fault
  place n = found reason.RowOrder 2 (l.rows.start + n * 16)

  abbrev firsts : List ℕ
  firsts = map (λ f. f.first) (functions_in bs l)

  -- numbers that are refused have no meaning
  meaning-first : (f : Fault) → meaning_of bs l ≡ Err f → Unmeant bs l f
  meaning-first f e =
      elim (onward-err (given (eqb (get_or bs 0 0) 1) reason.Meaning 2 0) _ f e) [
        | inl bad ↦ (let g = given-err (eqb (get_or bs 0 0) 1) reason.Meaning 2 0 f bad in subst (Unmeant bs l) g.1 (unmeant-edition (eqb-false (get_or bs 0 0) 1 g.0)))
        | inr a ↦ (
            let one : get_or bs 0 0 ≡ 1 = eqb-true (get_or bs 0 0) 1 (given-ok (eqb (get_or bs 0 0) 1) reason.Meaning 2 0 a.0 a.1) in
            elim (onward-err (either (limit_of (sizes_in bs l) (constructors_in bs l)) (Ok (tt {0})) (λ b. Err (limit_fault l b))) _ f a.2) [
              | inl bad ↦ (let g = either-some (limit_of (sizes_in bs l) (constructors_in bs l)) (limit_fault l) f bad in subst (Unmeant bs l) g.2 (unmeant-form one g.1))
              | inr b ↦ (
                  let limits : limit_of (sizes_in bs l) (constructors_in bs l) ≡ None = either-none (limit_of (sizes_in bs l) (constructors_in bs l)) (limit_fault l) b.0 b.1 in
                  elim (onward-err (first_unfair (fair_function_at bs l) l.functions.start 8 0 l.functions.count) _ f b.2) [
                    | inl bad ↦ (let g = unfair-from-zero (fair_function_at bs l) l.functions.start 8 l.functions.count f bad in subst (Unmeant bs l) g.4 (unmeant-function one limits g.1 g.2 g.3))
                    | inr c ↦ (
                        let fair = all-from-zero (fair_function_at bs l) l.functions.start 8 l.functions.count c.0 c.1 in
                        let g = unfair-from-zero (fair_row_at bs l) l.rows.start 16 l.rows.count f c.2 in
                        subst (Unmeant bs l) g.4 (unmeant-row one limits fair g.1 g.2 g.3))
                  ])
            ])
      ]

  -- rows that are refused are out of order, the lowest of them
  order-first : (u : Unit {0}) (f : Fault) → Laid bs l → meaning_of bs l ≡ Ok u → order_of bs l ≡ Err f → First bs f
  order-first u f fine m o =
      let a = onward-ok (given (eqb (get_or bs 0 0) 1) reason.Meaning 2 0) _ u m in
      let b = onward-ok (either (limit_of (sizes_in bs l) (constructors_in bs l)) (Ok (tt {0})) (λ b. Err (limit_fault l b))) _ u a.2 in
      let c = onward-ok (first_unfair (fair_function_at bs l) l.functions.start 8 0 l.functions.count) _ u b.2 in
      let g = either-some (disorder (bodies firsts) (rows_in bs l) 0) place f o in
      let low = lowest (rows_in bs l) firsts (disorder (bodies firsts) (rows_in bs l) 0) refl g.0 g.1 in
      subst (First bs) g.2
      (first-order fine
      (eqb-true (get_or bs 0 0) 1 (given-ok (eqb (get_or bs 0 0) 1) reason.Meaning 2 0 a.0 a.1))
      (either-none (limit_of (sizes_in bs l) (constructors_in bs l)) (limit_fault l) b.0 b.1)
      (all-from-zero (fair_function_at bs l) l.functions.start 8 l.functions.count c.0 c.1)
      (all-from-zero (fair_row_at bs l) l.rows.start 16 l.rows.count u c.2)
      low.0 low.1)

pub first : (bs : List ℕ) (f : Fault) → table_of bs ≡ Err f → First bs f
first bs f e =
    elim (onward-err (layout_of bs) _ f e) [
      | inl bad ↦ layout-first bs f bad
      | inr a ↦ (
          let l : Layout = a.0 in
          let fine = laid bs l a.1 in
          elim (onward-err (meaning_of bs l) _ f a.2) [
            | inl bad ↦ first-meaning fine (meaning-first bs l f bad)
            | inr b ↦ elim (onward-err (order_of bs l) _ f b.2) [
              | inl bad ↦ order-first bs l b.0 f fine b.1 bad
              | inr c ↦ (let no = c.2 in absurd (grind arith))
            ]
          ])
    ]

-- the answer of a reading, where it refuses
pub firsting : (bs : List ℕ) (r : Result Layout Fault) → r ≡ table_of bs → (f : Fault) → r ≡ Err f → First bs f
firsting bs r e f bad = first bs f (sym e ∙ bad)
