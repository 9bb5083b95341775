-- The first fault of bytes is the one that is answered.
use Rattle.std.proofs.Common.{◌≡◌, ℕ, zero, suc, ◌+◌, ◌-◌, ◌*◌, ◌/◌, ◌<◌, ◌≤◌, Bool, true, false, cond, ◌&&◌, eqb, leb, List, map, length, get_or, Ok, Err, Result, sym, refl, ap, ◌∙◌, div-lt_iff_lt-mul, le-div_iff_mul-le, zero-add, arith}
use Rattle.std.proofs.lemmas.Bool.{le-leb, lt-leb, eq-eqb, ne_eqb, and_from, and_left, and_right}
use Rattle.packed.specs.declared.fault.Fault.{Fault}
use Rattle.packed.specs.declared.fault.Reason.{Reason}
use Rattle.packed.specs.declared.fault.Reason.TheVariants as reason
use Rattle.packed.specs.Forms.{total, either, limit_of}
use Rattle.table.specs.declared.section.Section.{Section}
use Rattle.table.specs.declared.section.Layout.{Layout}
use Rattle.table.specs.Rows.{word}
use Rattle.table.specs.Laid.{Lies}
use Rattle.packed.specs.Faults.{found, given}
use Rattle.table.specs.Sections.{onward, in_range, within, section_of, sections_of, counts_of, layout_of}
use Rattle.table.specs.Meaning.{first_unfair}
use Rattle.table.specs.Table.{constructors_in, fair_function_at, fair_row_at, functions_in, limit_fault, meaning_of, order_of, rows_in, sizes_in, table_of}
use Rattle.table.specs.First.{Reached, Cut, Miscounted, Unmeant, First}
use Rattle.table.specs.First.Reached.{types as reached-types, constructors as reached-constructors, functions as reached-functions, rows as reached-rows}
use Rattle.table.specs.First.Cut.{edition as cut-edition, count as cut-count, item as cut-item}
use Rattle.table.specs.First.Miscounted.{types as miscounted-types, sum as miscounted-sum, constructors as miscounted-constructors, functions as miscounted-functions, rows as miscounted-rows}
use Rattle.table.specs.First.Unmeant.{edition as unmeant-edition, form as unmeant-form, function as unmeant-function, row as unmeant-row}
use Rattle.table.specs.First.First.{ends as first_ends, behind as first-behind, count as first_count, meaning as first-meaning, order as first-order}
use Rattle.table.proofs.Forming.{go_on, give-on, laid_on, meaning-on, none-either, none-unfair, section-found, whole-on}
use Rattle.table.proofs.OrderFaults.{lowest-named}

-- what is refused goes no further
stop-at : {A B : Type 0} (r : Result A Fault) (more : A → Result B Fault) (f : Fault) → r ≡ Err f → onward r more ≡ Err f
stop-at r more f e = ap (λ v. onward v more) e

give-stop : (test : Bool) (why : Reason) (layer p : ℕ) → test ≡ false → given test why layer p ≡ Err (found why layer p)
give-stop test why layer p e = ap (λ v. given v why layer p) e

-- a section that is cut is refused there
module _ (width : ℕ) (bs : List ℕ) (at : ℕ) where
  section-count-cut : length bs < at + 2 → section_of width bs at ≡ Err (found reason.BytesEnd 1 at)
  section-count-cut h = ap (λ v. cond v (cond (leb (word bs at) ((length bs - (at + 2)) / width)) (Ok (record { start = at + 2; count = word bs at; end = at + 2 + word bs at * width })) (Err (found reason.BytesEnd 1 (at + 2 + (length bs - (at + 2)) / width * width)))) (Err (found reason.BytesEnd 1 at))) (lt-leb (at + 2) (length bs) h)

  section-item-cut : (i : ℕ) → 0 < width → i < word bs at → at + 2 + i * width ≤ length bs → length bs < at + 2 + (i + 1) * width → section_of width bs at ≡ Err (found reason.BytesEnd 1 (at + 2 + i * width))
  section-item-cut i wide many low high =
      let least : i ≤ (length bs - (at + 2)) / width = (le-div_iff_mul-le wide).1 (omega arith) in
      let most : (length bs - (at + 2)) / width < i + 1 = (div-lt_iff_lt-mul wide).1 (omega arith) in
      let whole : (length bs - (at + 2)) / width ≡ i = omega arith in
      ap (λ v. cond v (cond (leb (word bs at) ((length bs - (at + 2)) / width)) (Ok (record { start = at + 2; count = word bs at; end = at + 2 + word bs at * width })) (Err (found reason.BytesEnd 1 (at + 2 + (length bs - (at + 2)) / width * width)))) (Err (found reason.BytesEnd 1 at))) (le-leb (at + 2) (length bs) (omega arith))
      ∙ ap (λ v. cond {A = Result Section Fault} v (Ok (record { start = at + 2; count = word bs at; end = at + 2 + word bs at * width })) (Err (found reason.BytesEnd 1 (at + 2 + (length bs - (at + 2)) / width * width)))) (lt-leb (word bs at) ((length bs - (at + 2)) / width) (omega arith))
      ∙ ap (λ n. Err (found reason.BytesEnd 1 (at + 2 + n * width))) whole

-- the sections in front of a place where a section is due
data Chain (bs : List ℕ) : ℕ → ℕ → Type 0 where
  at-types : Chain bs 1 1
  at-constructors : {t : Section} → Lies 1 bs 1 t → Chain bs 6 t.end
  at-functions : {t c : Section} → Lies 1 bs 1 t → Lies 6 bs t.end c → Chain bs 8 c.end
  at-rows : {t c f : Section} → Lies 1 bs 1 t → Lies 6 bs t.end c → Lies 8 bs c.end f → Chain bs 16 f.end

reached-some : (bs : List ℕ) (width at : ℕ) → Reached bs width at → 1 ≤ length bs
reached-some bs _ _ (reached-types s) = s
reached-some bs _ _ (reached-constructors r t) = reached-some bs 1 1 r
reached-some bs _ _ (reached-functions {at} {c} r lc) = reached-some bs 6 at r
reached-some bs _ _ (reached-rows {at} {f} r lf) = reached-some bs 8 at r

chain-two : (bs : List ℕ) (c : Section) (width at : ℕ) → Chain bs width at → width ≡ 6 → Lies 6 bs at c → Chain bs 8 c.end
chain-two bs c _ _ at-types e lc = absurd (omega arith)
chain-two bs c _ _ (at-constructors lt) e lc = at-functions lt lc
chain-two bs c _ _ (at-functions lt l) e lc = absurd (omega arith)
chain-two bs c _ _ (at-rows lt l lf) e lc = absurd (omega arith)

chain-three : (bs : List ℕ) (f : Section) (width at : ℕ) → Chain bs width at → width ≡ 8 → Lies 8 bs at f → Chain bs 16 f.end
chain-three bs f _ _ at-types e lf = absurd (omega arith)
chain-three bs f _ _ (at-constructors lt) e lf = absurd (omega arith)
chain-three bs f _ _ (at-functions lt lc) e lf = at-rows lt lc lf
chain-three bs f _ _ (at-rows lt lc l) e lf = absurd (omega arith)

chain-of : (bs : List ℕ) (width at : ℕ) → Reached bs width at → Chain bs width at
chain-of bs _ _ (reached-types s) = at-types
chain-of bs _ _ (reached-constructors r lt) = at-constructors lt
chain-of bs _ _ (reached-functions {at} {c} r lc) = chain-two bs c 6 at (chain-of bs 6 at r) refl lc
chain-of bs _ _ (reached-rows {at} {f} r lf) = chain-three bs f 8 at (chain-of bs 8 at r) refl lf

-- a section that is refused, where all before it is whole, refuses the sections
reached-wide : (bs : List ℕ) (width at : ℕ) → Reached bs width at → 0 < width
reached-wide bs _ _ (reached-types s) = omega arith
reached-wide bs _ _ (reached-constructors r t) = omega arith
reached-wide bs _ _ (reached-functions r c) = omega arith
reached-wide bs _ _ (reached-rows r f) = omega arith

some-on : (bs : List ℕ) → 1 ≤ length bs → given (leb 1 (length bs)) reason.BytesEnd 1 0 ≡ Ok tt
some-on bs s = give-on (leb 1 (length bs)) reason.BytesEnd 1 0 (le-leb 1 (length bs) s)

chain-refused : (bs : List ℕ) (width at : ℕ) (f : Fault) → 1 ≤ length bs → Chain bs width at → section_of width bs at ≡ Err f → sections_of bs ≡ Err f
chain-refused bs _ _ f s at-types e =
    go_on (given (leb 1 (length bs)) reason.BytesEnd 1 0) _ tt (Err f) (some-on bs s)
    (stop-at (section_of 1 bs 1) _ f e)
chain-refused bs _ _ f s (at-constructors {t} lt) e =
    go_on (given (leb 1 (length bs)) reason.BytesEnd 1 0) _ tt (Err f) (some-on bs s)
    (go_on (section_of 1 bs 1) _ t (Err f) (section-found 1 bs 1 t (omega arith) lt)
    (stop-at (section_of 6 bs t.end) _ f e))
chain-refused bs _ _ f s (at-functions {t} {c} lt lc) e =
    go_on (given (leb 1 (length bs)) reason.BytesEnd 1 0) _ tt (Err f) (some-on bs s)
    (go_on (section_of 1 bs 1) _ t (Err f) (section-found 1 bs 1 t (omega arith) lt)
    (go_on (section_of 6 bs t.end) _ c (Err f) (section-found 6 bs t.end c (omega arith) lc)
    (stop-at (section_of 8 bs c.end) _ f e)))
chain-refused bs _ _ why s (at-rows {t} {c} {f} lt lc lf) e =
    go_on (given (leb 1 (length bs)) reason.BytesEnd 1 0) _ tt (Err why) (some-on bs s)
    (go_on (section_of 1 bs 1) _ t (Err why) (section-found 1 bs 1 t (omega arith) lt)
    (go_on (section_of 6 bs t.end) _ c (Err why) (section-found 6 bs t.end c (omega arith) lc)
    (go_on (section_of 8 bs c.end) _ f (Err why) (section-found 8 bs c.end f (omega arith) lf)
    (stop-at (section_of 16 bs f.end) _ why e))))

reached-refused : (bs : List ℕ) (width at : ℕ) (f : Fault) → Reached bs width at → section_of width bs at ≡ Err f → sections_of bs ≡ Err f
reached-refused bs width at f r e = chain-refused bs width at f (reached-some bs width at r) (chain-of bs width at r) e

cut-refused : (bs : List ℕ) (p : ℕ) → Cut bs p → sections_of bs ≡ Err (found reason.BytesEnd 1 p)
cut-refused bs _ (cut-edition nil) = stop-at (given (leb 1 (length bs)) reason.BytesEnd 1 0) _ (found reason.BytesEnd 1 0) (give-stop (leb 1 (length bs)) reason.BytesEnd 1 0 (lt-leb 1 (length bs) (omega arith)))
cut-refused bs _ (cut-count {width} {at} here low high) = reached-refused bs width at (found reason.BytesEnd 1 at) here (section-count-cut width bs at high)
cut-refused bs _ (cut-item {width} {at} {i} here many low high) = reached-refused bs width at (found reason.BytesEnd 1 (at + 2 + i * width)) here (section-item-cut width bs at i (reached-wide bs width at here) many low high)

-- a count that is wrong is refused
module _ (bs : List ℕ) (l : Layout) where
  abbrev sums : Bool
  sums = eqb (total (within bs l.types)) l.constructors.count && leb l.constructors.count 64

  types-counted : in_range 1 l.types.count 16 ≡ true → given (in_range 1 l.types.count 16) reason.Count 1 (l.types.start - 2) ≡ Ok tt
  types-counted e = give-on (in_range 1 l.types.count 16) reason.Count 1 (l.types.start - 2) e

  sums-right : total (within bs l.types) ≡ l.constructors.count → l.constructors.count ≤ 64 → given sums reason.Count 1 (l.constructors.start - 2) ≡ Ok tt
  sums-right e h = give-on sums reason.Count 1 (l.constructors.start - 2) (and_from (eqb (total (within bs l.types)) l.constructors.count) (leb l.constructors.count 64) (eq-eqb (total (within bs l.types)) l.constructors.count e) (le-leb l.constructors.count 64 h))

  sums-stop : (s : sums ≡ false) → in_range 1 l.types.count 16 ≡ true → counts_of bs l ≡ Err (found reason.Count 1 (l.constructors.start - 2))
  sums-stop s few =
      go_on (given (in_range 1 l.types.count 16) reason.Count 1 (l.types.start - 2)) _ tt (Err (found reason.Count 1 (l.constructors.start - 2))) (types-counted few)
      (stop-at (given sums reason.Count 1 (l.constructors.start - 2)) _ (found reason.Count 1 (l.constructors.start - 2)) (give-stop sums reason.Count 1 (l.constructors.start - 2) s))

  miscounted-refused : (s : Section) → Miscounted bs l s → counts_of bs l ≡ Err (found reason.Count 1 (s.start - 2))
  miscounted-refused _ (miscounted-types bad) = stop-at (given (in_range 1 l.types.count 16) reason.Count 1 (l.types.start - 2)) _ (found reason.Count 1 (l.types.start - 2)) (give-stop (in_range 1 l.types.count 16) reason.Count 1 (l.types.start - 2) bad)
  miscounted-refused _ (miscounted-sum few other) = sums-stop (and_left (eqb (total (within bs l.types)) l.constructors.count) (leb l.constructors.count 64) (ne_eqb (total (within bs l.types)) l.constructors.count other)) few
  miscounted-refused _ (miscounted-constructors few many) = sums-stop (and_right (eqb (total (within bs l.types)) l.constructors.count) (leb l.constructors.count 64) (lt-leb l.constructors.count 64 many)) few
  miscounted-refused _ (miscounted-functions few said most bad) =
      go_on (given (in_range 1 l.types.count 16) reason.Count 1 (l.types.start - 2)) _ tt (Err (found reason.Count 1 (l.functions.start - 2))) (types-counted few)
      (go_on (given sums reason.Count 1 (l.constructors.start - 2)) _ tt (Err (found reason.Count 1 (l.functions.start - 2))) (sums-right said most)
      (stop-at (given (in_range 1 l.functions.count 32) reason.Count 1 (l.functions.start - 2)) _ (found reason.Count 1 (l.functions.start - 2)) (give-stop (in_range 1 l.functions.count 32) reason.Count 1 (l.functions.start - 2) bad)))
  miscounted-refused _ (miscounted-rows few said most fine bad) =
      go_on (given (in_range 1 l.types.count 16) reason.Count 1 (l.types.start - 2)) _ tt (Err (found reason.Count 1 (l.rows.start - 2))) (types-counted few)
      (go_on (given sums reason.Count 1 (l.constructors.start - 2)) _ tt (Err (found reason.Count 1 (l.rows.start - 2))) (sums-right said most)
      (go_on (given (in_range 1 l.functions.count 32) reason.Count 1 (l.functions.start - 2)) _ tt (Err (found reason.Count 1 (l.rows.start - 2))) (give-on (in_range 1 l.functions.count 32) reason.Count 1 (l.functions.start - 2) fine)
      (give-stop (in_range 1 l.rows.count 1024) reason.Count 1 (l.rows.start - 2) bad)))

-- the first record that is not fair is refused
fails-refused : (fair : ℕ → Bool) (start width i count k : ℕ) → k < count → fair (i + k) ≡ false → ((j : ℕ) → j < k → fair (i + j) ≡ true) → first_unfair fair start width i count ≡ Err (found reason.Meaning 2 (start + (i + k) * width))
fails-refused fair start width i zero k h bad before = absurd (omega arith)
fails-refused fair start width i (suc count) zero h bad before =
    let here : i + 0 ≡ i = omega arith in
    stop-at (given (fair i) reason.Meaning 2 (start + i * width)) _ (found reason.Meaning 2 (start + i * width)) (give-stop (fair i) reason.Meaning 2 (start + i * width) (ap fair (sym here) ∙ bad))
    ∙ ap (λ v. Err (found reason.Meaning 2 (start + v * width))) (sym here)
fails-refused fair start width i (suc count) (suc k) h bad before =
    let here : i ≡ i + 0 = omega arith in
    let there : i + 1 + k ≡ i + suc k = omega arith in
    go_on (given (fair i) reason.Meaning 2 (start + i * width)) (λ _. first_unfair fair start width (i + 1) count) tt (Err (found reason.Meaning 2 (start + (i + suc k) * width))) (give-on (fair i) reason.Meaning 2 (start + i * width) (ap fair here ∙ before 0 (omega arith)))
    (fails-refused fair start width (i + 1) count k (omega arith) (ap fair there ∙ bad) (λ j l. let far : i + 1 + j ≡ i + suc j = omega arith in ap fair far ∙ before (suc j) (omega arith))
    ∙ ap (λ v. Err (found reason.Meaning 2 (start + v * width))) there)

fails-from-zero : (fair : ℕ → Bool) (start width count k : ℕ) → k < count → fair k ≡ false → ((j : ℕ) → j < k → fair j ≡ true) → first_unfair fair start width 0 count ≡ Err (found reason.Meaning 2 (start + k * width))
fails-from-zero fair start width count k h bad before =
    fails-refused fair start width 0 count k h (ap fair (zero-add k) ∙ bad) (λ j l. ap fair (zero-add j) ∙ before j l)
    ∙ ap (λ v. Err (found reason.Meaning 2 (start + v * width))) (zero-add k)

module _ (bs : List ℕ) (l : Layout) where
  abbrev limits : Result (Unit {0}) Fault
  limits = either (limit_of (sizes_in bs l) (constructors_in bs l)) (Ok (tt {0})) (λ b. Err (limit_fault l b))

  edition-on : get_or bs 0 0 ≡ 1 → given (eqb (get_or bs 0 0) 1) reason.Meaning 2 0 ≡ Ok tt
  edition-on e = give-on (eqb (get_or bs 0 0) 1) reason.Meaning 2 0 (eq-eqb (get_or bs 0 0) 1 e)

  unmeant-refused : (f : Fault) → Unmeant bs l f → meaning_of bs l ≡ Err f
  unmeant-refused _ (unmeant-edition other) = stop-at (given (eqb (get_or bs 0 0) 1) reason.Meaning 2 0) _ (found reason.Meaning 2 0) (give-stop (eqb (get_or bs 0 0) 1) reason.Meaning 2 0 (ne_eqb (get_or bs 0 0) 1 other))
  unmeant-refused _ (unmeant-form {b} one broken) =
      let f = limit_fault l b in
      go_on (given (eqb (get_or bs 0 0) 1) reason.Meaning 2 0) _ tt (Err f) (edition-on one)
      (stop-at limits _ f (ap (λ o. either o (Ok (tt {0})) (λ b. Err (limit_fault l b))) broken))
  unmeant-refused _ (unmeant-function {i} one fine h bad before) =
      let f = found reason.Meaning 2 (l.functions.start + i * 8) in
      go_on (given (eqb (get_or bs 0 0) 1) reason.Meaning 2 0) _ tt (Err f) (edition-on one)
      (go_on limits _ tt (Err f) (none-either (limit_of (sizes_in bs l) (constructors_in bs l)) (limit_fault l) fine)
      (stop-at (first_unfair (fair_function_at bs l) l.functions.start 8 0 l.functions.count) _ f (fails-from-zero (fair_function_at bs l) l.functions.start 8 l.functions.count i h bad before)))
  unmeant-refused _ (unmeant-row {i} one fine functions h bad before) =
      let f = found reason.Meaning 2 (l.rows.start + i * 16) in
      go_on (given (eqb (get_or bs 0 0) 1) reason.Meaning 2 0) _ tt (Err f) (edition-on one)
      (go_on limits _ tt (Err f) (none-either (limit_of (sizes_in bs l) (constructors_in bs l)) (limit_fault l) fine)
      (go_on (first_unfair (fair_function_at bs l) l.functions.start 8 0 l.functions.count) _ tt (Err f) (none-unfair (fair_function_at bs l) l.functions.start 8 0 l.functions.count (λ k h. ap (fair_function_at bs l) (zero-add k) ∙ functions k h))
      (fails-from-zero (fair_row_at bs l) l.rows.start 16 l.rows.count i h bad before)))

layout-refused : (bs : List ℕ) (f : Fault) → layout_of bs ≡ Err f → table_of bs ≡ Err f
layout-refused bs f e = stop-at (layout_of bs) _ f e

pub refused : (bs : List ℕ) (f : Fault) → First bs f → table_of bs ≡ Err f
refused bs _ (first_ends {p} cut) = layout-refused bs (found reason.BytesEnd 1 p) (stop-at (sections_of bs) _ (found reason.BytesEnd 1 p) (cut-refused bs p cut))
refused bs _ (first-behind {l} whole more) =
    let f = found reason.BytesBehind 1 l.rows.end in
    layout-refused bs f
    (go_on (sections_of bs) _ l (Err f) (whole-on bs l whole)
    (stop-at (given (leb (length bs) l.rows.end) reason.BytesBehind 1 l.rows.end) _ f (give-stop (leb (length bs) l.rows.end) reason.BytesBehind 1 l.rows.end (lt-leb (length bs) l.rows.end more))))
refused bs _ (first_count {l} {s} whole last wrong) =
    let f = found reason.Count 1 (s.start - 2) in
    layout-refused bs f
    (go_on (sections_of bs) _ l (Err f) (whole-on bs l whole)
    (go_on (given (leb (length bs) l.rows.end) reason.BytesBehind 1 l.rows.end) _ tt (Err f) (give-on (leb (length bs) l.rows.end) reason.BytesBehind 1 l.rows.end (le-leb (length bs) l.rows.end (omega arith)))
    (stop-at (counts_of bs l) _ f (miscounted-refused bs l s wrong))))
refused bs _ (first-meaning {l} {f} fine bad) =
    go_on (layout_of bs) _ l (Err f) (laid_on bs l fine)
    (stop-at (meaning_of bs l) _ f (unmeant-refused bs l f bad))
refused bs _ (first-order {l} {n} fine one limits functions rows faulty least) =
    let f = found reason.RowOrder 2 (l.rows.start + n * 16) in
    let firsts = map (λ g. g.first) (functions_in bs l) in
    go_on (layout_of bs) _ l (Err f) (laid_on bs l fine)
    (go_on (meaning_of bs l) _ tt (Err f) (meaning-on bs l one limits functions rows)
    (stop-at (order_of bs l) _ f (ap (λ o. either o (Ok (tt {0})) (λ n. Err (found reason.RowOrder 2 (l.rows.start + n * 16)))) (lowest-named (rows_in bs l) firsts n faulty least))))

-- the answer of a reading that refuses, both ways
pub refusing : (bs : List ℕ) (r : Result Layout Fault) → r ≡ table_of bs → (f : Fault) → First bs f → r ≡ Err f
refusing bs r e f first = e ∙ refused bs f first
