-- A table is read exactly where it is formed.
use Rattle.std.proofs.Common.{◌≡◌, ℕ, zero, suc, ◌+◌, ◌-◌, ◌*◌, ◌/◌, ◌<◌, ◌≤◌, Bool, true, false, cond, ◌&&◌, eqb, leb, List, map, length, get_or, take, drop, Some, None, Ok, Err, Option, Result, sym, refl, ap, ◌∙◌, subst, le-div_iff_mul-le, zero-add, arith}
use Rattle.std.specs.List.{slice_get}
use Rattle.std.proofs.lemmas.Bool.{le-leb, eq-eqb, eqb-true, and_from}
use Rattle.packed.specs.declared.fault.Fault.{Fault}
use Rattle.packed.specs.declared.fault.Reason.{Reason}
use Rattle.packed.specs.declared.fault.Reason.TheVariants as reason
use Rattle.packed.specs.Forms.{total, either, limit_of}
use Rattle.table.specs.declared.section.Section.{Section}
use Rattle.table.specs.declared.section.Layout.{Layout}
use Rattle.table.specs.Rows.{word, row_of}
use Rattle.table.specs.Laid.{Lies, Laid}
use Rattle.table.specs.First.{Whole}
use Rattle.packed.specs.Faults.{found, given}
use Rattle.table.specs.Sections.{onward, in_range, within, section_of, sections_of, counts_of, layout_of}
use Rattle.table.specs.Meaning.{fair_function, fair_row, first_unfair}
use Rattle.table.specs.Order.{disorder, bodies}
use Rattle.table.specs.Table.{sizes_in, constructors_in, functions_in, rows_in, terms_in, limit_fault, meaning_of, order_of, table_of}
use Rattle.table.specs.Formed.{Formed}
use Rattle.table.proofs.Laying.{onward-ok, given-ok, laid}
use Rattle.table.proofs.Judging.{all-fair-at}
use Rattle.table.proofs.OrderSpans.{bodies-on, bodies-stand}

-- what goes on from something goes on
pub go_on : {A B : Type 0} (r : Result A Fault) (more : A → Result B Fault) (x : A) (y : Result B Fault) → r ≡ Ok x → more x ≡ y → onward r more ≡ y
go_on r more x y e f = ap (λ v. onward v more) e ∙ f

pub give-on : (test : Bool) (why : Reason) (layer p : ℕ) → test ≡ true → given test why layer p ≡ Ok tt
give-on test why layer p e = ap (λ v. given v why layer p) e

-- its records fit what is left
room : (width : ℕ) (bs : List ℕ) (at : ℕ) (s : Section) → Lies width bs at s → word bs at * width ≤ length bs - (at + 2)
room width bs at s l =
    let e : s.end ≡ at + 2 + word bs at * width = l.ends ∙ (λ i. l.starts i + l.counted i * width) in
    let i = l.inside in
    omega arith

-- a section that lies within the bytes is found there
pub section-found : (width : ℕ) (bs : List ℕ) (at : ℕ) (s : Section) → 0 < width → Lies width bs at s → section_of width bs at ≡ Ok s
section-found width bs at s wide l =
    let few : word bs at ≤ (length bs - (at + 2)) / width = (le-div_iff_mul-le wide).1 (room width bs at s l) in
    let fits : at + 2 ≤ length bs = let a = l.starts in let e = l.ends in let i = l.inside in omega arith in
    let start = l.starts in
    let count = l.counted in
    let end : at + 2 + word bs at * width ≡ s.end = sym (l.ends ∙ (λ i. start i + count i * width)) in
    ap (λ v. cond v (cond (leb (word bs at) ((length bs - (at + 2)) / width)) (Ok (record { start = at + 2; count = word bs at; end = at + 2 + word bs at * width })) (Err (found reason.BytesEnd 1 (at + 2 + (length bs - (at + 2)) / width * width)))) (Err (found reason.BytesEnd 1 at))) (le-leb (at + 2) (length bs) fits)
    ∙ ap (λ v. cond v (Ok (record { start = at + 2; count = word bs at; end = at + 2 + word bs at * width })) (Err (found reason.BytesEnd 1 (at + 2 + (length bs - (at + 2)) / width * width)))) (le-leb (word bs at) ((length bs - (at + 2)) / width) few)
    ∙ (λ i. Ok (record { start = sym start i; count = sym count i; end = end i }))

pub in-range-on : (low n high : ℕ) → (low ≤ n) × (n ≤ high) → in_range low n high ≡ true
in-range-on low n high h = and_from (leb low n) (leb n high) (le-leb low n h.0) (le-leb n high h.1)

-- sections that lie one behind the other are the sections
pub whole-on : (bs : List ℕ) (l : Layout) → Whole bs l → sections_of bs ≡ Ok l
whole-on bs l d =
    go_on (given (leb 1 (length bs)) reason.BytesEnd 1 0) _ tt (Ok l) (give-on (leb 1 (length bs)) reason.BytesEnd 1 0 (le-leb 1 (length bs) d.some))
    (go_on (section_of 1 bs 1) _ l.types (Ok l) (section-found 1 bs 1 l.types (omega arith) d.types)
    (go_on (section_of 6 bs l.types.end) _ l.constructors (Ok l) (section-found 6 bs l.types.end l.constructors (omega arith) d.constructors)
    (go_on (section_of 8 bs l.constructors.end) _ l.functions (Ok l) (section-found 8 bs l.constructors.end l.functions (omega arith) d.functions)
    (go_on (section_of 16 bs l.functions.end) _ l.rows (Ok l) (section-found 16 bs l.functions.end l.rows (omega arith) d.rows)
    refl))))

pub whole_of : (bs : List ℕ) (l : Layout) → Laid bs l → Whole bs l
whole_of bs l d = record { some = d.some; types = d.types; constructors = d.constructors; functions = d.functions; rows = d.rows }

-- sections that are laid are the layout
pub laid_on : (bs : List ℕ) (l : Layout) → Laid bs l → layout_of bs ≡ Ok l
laid_on bs l d =
    let counts : counts_of bs l ≡ Ok tt =
    go_on (given (in_range 1 l.types.count 16) reason.Count 1 (l.types.start - 2)) _ tt (Ok tt) (give-on (in_range 1 l.types.count 16) reason.Count 1 (l.types.start - 2) (in-range-on 1 l.types.count 16 d.type_count))
    (go_on (given (eqb (total (within bs l.types)) l.constructors.count && leb l.constructors.count 64) reason.Count 1 (l.constructors.start - 2)) _ tt (Ok tt) (give-on (eqb (total (within bs l.types)) l.constructors.count && leb l.constructors.count 64) reason.Count 1 (l.constructors.start - 2) (and_from (eqb (total (within bs l.types)) l.constructors.count) (leb l.constructors.count 64) (eq-eqb (total (within bs l.types)) l.constructors.count d.said) (le-leb l.constructors.count 64 d.constructor_count)))
    (go_on (given (in_range 1 l.functions.count 32) reason.Count 1 (l.functions.start - 2)) _ tt (Ok tt) (give-on (in_range 1 l.functions.count 32) reason.Count 1 (l.functions.start - 2) (in-range-on 1 l.functions.count 32 d.function_count))
    (give-on (in_range 1 l.rows.count 1024) reason.Count 1 (l.rows.start - 2) (in-range-on 1 l.rows.count 1024 d.row_count)))) in
    go_on (sections_of bs) _ l (Ok l) (whole-on bs l (whole_of bs l d))
    (go_on (given (leb (length bs) l.rows.end) reason.BytesBehind 1 l.rows.end) _ tt (Ok l) (give-on (leb (length bs) l.rows.end) reason.BytesBehind 1 l.rows.end (le-leb (length bs) l.rows.end d.all))
    (go_on (counts_of bs l) _ tt (Ok l) counts refl))

-- where each is fair, none is unfair
pub none-unfair : (fair : ℕ → Bool) (start width i count : ℕ) → ((k : ℕ) → k < count → fair (i + k) ≡ true) → first_unfair fair start width i count ≡ Ok tt
none-unfair fair start width i zero all = refl
none-unfair fair start width i (suc count) all =
    let here : i + 0 ≡ i = omega arith in
    go_on (given (fair i) reason.Meaning 2 (start + i * width)) (λ _. first_unfair fair start width (i + 1) count) tt (Ok tt) (give-on (fair i) reason.Meaning 2 (start + i * width) (ap fair (sym here) ∙ all 0 (omega arith)))
    (none-unfair fair start width (i + 1) count (λ k h. let there : i + 1 + k ≡ i + suc k = omega arith in ap fair there ∙ all (suc k) (omega arith)))

-- a refusal by what is there, and none where nothing is
pub either-none : {A : Type 0} (o : Option A) (f : A → Fault) (u : Unit {0}) → either o (Ok (tt {0})) (λ b. Err (f b)) ≡ Ok u → o ≡ None
either-none None f u e = refl
either-none (Some x) f u e = absurd (grind arith)

pub none-either : {A : Type 0} (o : Option A) (f : A → Fault) → o ≡ None → either o (Ok (tt {0})) (λ b. Err (f b)) ≡ Ok tt
none-either o f e = ap (λ v. either v (Ok (tt {0})) (λ b. Err (f b))) e

module _ (bs : List ℕ) (l : Layout) where
  abbrev fair_at : ℕ → Bool
  fair_at i = either (slice_get (functions_in bs l) i) false (fair_function l.types.count i)

  abbrev row_at : ℕ → Bool
  row_at i = either (row_of (take 16 (drop (i * 16) (within bs l.rows)))) false (fair_row (terms_in bs l))

  abbrev place : ℕ → Fault
  place n = found reason.RowOrder 2 (l.rows.start + n * 16)

  abbrev firsts : List ℕ
  firsts = map (λ f. f.first) (functions_in bs l)

  formed-from : (u v : Unit {0}) → layout_of bs ≡ Ok l → meaning_of bs l ≡ Ok u → order_of bs l ≡ Ok v → Formed bs l
  formed-from u v e m o =
      let a = onward-ok (given (eqb (get_or bs 0 0) 1) reason.Meaning 2 0) _ u m in
      let b = onward-ok (either (limit_of (sizes_in bs l) (constructors_in bs l)) (Ok (tt {0})) (λ b. Err (limit_fault l b))) _ u a.2 in
      let c = onward-ok (first_unfair fair_at l.functions.start 8 0 l.functions.count) _ u b.2 in
      record {
        laid = laid bs l e;
        edition = eqb-true (get_or bs 0 0) 1 (given-ok (eqb (get_or bs 0 0) 1) reason.Meaning 2 0 a.0 a.1);
        limits = either-none (limit_of (sizes_in bs l) (constructors_in bs l)) (limit_fault l) b.0 b.1;
        functions = λ i h. ap fair_at (sym (zero-add i)) ∙ all-fair-at fair_at l.functions.start 8 0 l.functions.count c.0 c.1 i h;
        rows = λ i h. ap row_at (sym (zero-add i)) ∙ all-fair-at row_at l.rows.start 16 0 l.rows.count u c.2 i h;
        order = bodies-stand (rows_in bs l) firsts (either-none (disorder (bodies firsts) (rows_in bs l) 0) place v o);
      }

  pub meaning-on : get_or bs 0 0 ≡ 1 → limit_of (sizes_in bs l) (constructors_in bs l) ≡ None → ((i : ℕ) → i < l.functions.count → fair_at i ≡ true) → ((i : ℕ) → i < l.rows.count → row_at i ≡ true) → meaning_of bs l ≡ Ok tt
  meaning-on one limits functions rows =
      go_on (given (eqb (get_or bs 0 0) 1) reason.Meaning 2 0) _ tt (Ok tt) (give-on (eqb (get_or bs 0 0) 1) reason.Meaning 2 0 (eq-eqb (get_or bs 0 0) 1 one))
      (go_on (either (limit_of (sizes_in bs l) (constructors_in bs l)) (Ok (tt {0})) (λ b. Err (limit_fault l b))) _ tt (Ok tt) (none-either (limit_of (sizes_in bs l) (constructors_in bs l)) (limit_fault l) limits)
      (go_on (first_unfair fair_at l.functions.start 8 0 l.functions.count) _ tt (Ok tt) (none-unfair fair_at l.functions.start 8 0 l.functions.count (λ k h. ap fair_at (zero-add k) ∙ functions k h))
      (none-unfair row_at l.rows.start 16 0 l.rows.count (λ k h. ap row_at (zero-add k) ∙ rows k h))))

  pub formed-on : Formed bs l → table_of bs ≡ Ok l
  formed-on f =
      let meaning = meaning-on f.edition f.limits f.functions f.rows in
      let order : order_of bs l ≡ Ok tt = none-either (disorder (bodies firsts) (rows_in bs l) 0) place (bodies-on (rows_in bs l) f.order) in
      go_on (layout_of bs) _ l (Ok l) (laid_on bs l f.laid)
      (go_on (meaning_of bs l) _ tt (Ok l) meaning
      (go_on (order_of bs l) _ tt (Ok l) order refl))

pub formed : (bs : List ℕ) (l : Layout) → table_of bs ≡ Ok l → Formed bs l
formed bs l e =
    let a = onward-ok (layout_of bs) _ l e in
    let b = onward-ok (meaning_of bs a.0) _ l a.2 in
    let c = onward-ok (order_of bs a.0) _ l b.2 in
    let same : a.0 ≡ l = let x = c.2 in cc in
    subst (Formed bs) same (formed-from bs a.0 b.0 c.0 a.1 b.1 c.1)

-- the answer of a reading, both ways
pub forming : (bs : List ℕ) (r : Result Layout Fault) → r ≡ table_of bs → ((l : Layout) → r ≡ Ok l → Formed bs l) × ((l : Layout) → Formed bs l → r ≡ Ok l)
forming bs r e = (λ l f. formed bs l (sym e ∙ f), λ l f. e ∙ formed-on bs l f)
