-- What an accepted layout says of its sections.
use Rattle.std.proofs.Common.{◌≡◌, ℕ, ◌+◌, ◌-◌, ◌*◌, ◌/◌, ◌≤◌, Bool, true, false, cond, ◌&&◌, eqb, leb, List, length, Ok, Err, Result, refl, subst, mul-le-mul_right, div-mul-le_self, arith}
use Rattle.std.proofs.lemmas.Bool.{leb-true, eqb-true, and_parts}
use Rattle.packed.specs.declared.fault.Fault.{Fault}
use Rattle.packed.specs.declared.fault.Reason.{Reason}
use Rattle.packed.specs.declared.fault.Reason.TheVariants as reason
use Rattle.packed.specs.Forms.{total}
use Rattle.table.specs.declared.section.Section.{Section}
use Rattle.table.specs.declared.section.Layout.{Layout}
use Rattle.table.specs.Rows.{word}
use Rattle.table.specs.Laid.{Lies, Laid}
use Rattle.packed.specs.Faults.{found, given}
use Rattle.table.specs.Sections.{onward, in_range, within, section_of, sections_of, counts_of, layout_of}

-- what went on went on from something
pub onward-ok : {A B : Type 0} (r : Result A Fault) (more : A → Result B Fault) (y : B) → onward r more ≡ Ok y → (x : A) × (r ≡ Ok x) × (more x ≡ Ok y)
onward-ok (Ok x) more y e = (x, refl, e)
onward-ok (Err f) more y e = absurd (grind arith)

pub given-ok : (test : Bool) (why : Reason) (layer p : ℕ) (u : Unit {0}) → given test why layer p ≡ Ok u → test ≡ true
given-ok true why layer p u e = refl
given-ok false why layer p u e = absurd (grind arith)

pub section-lies : (width : ℕ) (bs : List ℕ) (at : ℕ) (s : Section) → section_of width bs at ≡ Ok s → Lies width bs at s
section-lies width bs at s e = first (leb (at + 2) (length bs)) refl e
  where
    first : (v : Bool) → leb (at + 2) (length bs) ≡ v → cond v (cond (leb (word bs at) ((length bs - (at + 2)) / width)) (Ok (record { start = at + 2; count = word bs at; end = at + 2 + word bs at * width })) (Err (found reason.BytesEnd 1 (at + 2 + (length bs - (at + 2)) / width * width)))) (Err (found reason.BytesEnd 1 at)) ≡ Ok s → Lies width bs at s
    first false k f = absurd (grind arith)
    first true k f = second (leb (word bs at) ((length bs - (at + 2)) / width)) refl f
      where
        second : (v : Bool) → leb (word bs at) ((length bs - (at + 2)) / width) ≡ v → cond v (Ok (record { start = at + 2; count = word bs at; end = at + 2 + word bs at * width })) (Err (found reason.BytesEnd 1 (at + 2 + (length bs - (at + 2)) / width * width))) ≡ Ok s → Lies width bs at s
        second false q f = absurd (grind arith)
        second true q f =
            let same : ◌≡◌ {A = Section} (record { start = at + 2; count = word bs at; end = at + 2 + word bs at * width }) s = cc in
            let fits = leb-true (at + 2) (length bs) k in
            let few = leb-true (word bs at) ((length bs - (at + 2)) / width) q in
            let a = mul-le-mul_right width few in
            let b = div-mul-le_self (length bs - (at + 2)) width in
            subst (Lies width bs at) same record { starts = refl; counted = refl; ends = refl; inside = omega arith }

in-range : (low n high : ℕ) → in_range low n high ≡ true → (low ≤ n) × (n ≤ high)
in-range low n high e = let p = and_parts (leb low n) (leb n high) e in (leb-true low n p.0, leb-true n high p.1)

pub sections-lie : (bs : List ℕ) (l : Layout) → sections_of bs ≡ Ok l → (1 ≤ length bs) × Lies 1 bs 1 l.types × Lies 6 bs l.types.end l.constructors × Lies 8 bs l.constructors.end l.functions × Lies 16 bs l.functions.end l.rows
sections-lie bs l e =
    let a = onward-ok (given (leb 1 (length bs)) reason.BytesEnd 1 0) _ l e in
    let t = onward-ok (section_of 1 bs 1) _ l a.2 in
    let c = onward-ok (section_of 6 bs t.0.end) _ l t.2 in
    let f = onward-ok (section_of 8 bs c.0.end) _ l c.2 in
    let r = onward-ok (section_of 16 bs f.0.end) _ l f.2 in
    let same : ◌≡◌ {A = Layout} (record { types = t.0; constructors = c.0; functions = f.0; rows = r.0 }) l = let x = r.2 in cc in
    subst (λ (m : Layout). (1 ≤ length bs) × Lies 1 bs 1 m.types × Lies 6 bs m.types.end m.constructors × Lies 8 bs m.constructors.end m.functions × Lies 16 bs m.functions.end m.rows) same
    (leb-true 1 (length bs) (given-ok (leb 1 (length bs)) reason.BytesEnd 1 0 a.0 a.1), section-lies 1 bs 1 t.0 t.1, section-lies 6 bs t.0.end c.0 c.1, section-lies 8 bs c.0.end f.0 f.1, section-lies 16 bs f.0.end r.0 r.1)

pub laid : (bs : List ℕ) (l : Layout) → layout_of bs ≡ Ok l → Laid bs l
laid bs l e =
    let s = onward-ok (sections_of bs) _ l e in
    let b = onward-ok (given (leb (length bs) s.0.rows.end) reason.BytesBehind 1 s.0.rows.end) _ l s.2 in
    let c = onward-ok (counts_of bs s.0) _ l b.2 in
    let same : s.0 ≡ l = let x = c.2 in cc in
    let m = s.0 in
    let t = onward-ok (given (in_range 1 m.types.count 16) reason.Count 1 (m.types.start - 2)) _ c.0 c.1 in
    let k = onward-ok (given (eqb (total (within bs m.types)) m.constructors.count && leb m.constructors.count 64) reason.Count 1 (m.constructors.start - 2)) _ c.0 t.2 in
    let f = onward-ok (given (in_range 1 m.functions.count 32) reason.Count 1 (m.functions.start - 2)) _ c.0 k.2 in
    let sums = and_parts (eqb (total (within bs m.types)) m.constructors.count) (leb m.constructors.count 64) (given-ok _ reason.Count 1 (m.constructors.start - 2) k.0 k.1) in
    let lie = sections-lie bs m s.1 in
    subst (Laid bs) same record {
      some = lie.0;
      types = lie.1;
      constructors = lie.2;
      functions = lie.3;
      rows = lie.4;
      all = leb-true (length bs) m.rows.end (given-ok (leb (length bs) m.rows.end) reason.BytesBehind 1 m.rows.end b.0 b.1);
      type_count = in-range 1 m.types.count 16 (given-ok (in_range 1 m.types.count 16) reason.Count 1 (m.types.start - 2) t.0 t.1);
      said = eqb-true (total (within bs m.types)) m.constructors.count sums.0;
      constructor_count = leb-true m.constructors.count 64 sums.1;
      function_count = in-range 1 m.functions.count 32 (given-ok (in_range 1 m.functions.count 32) reason.Count 1 (m.functions.start - 2) f.0 f.1);
      row_count = in-range 1 m.rows.count 1024 (given-ok (in_range 1 m.rows.count 1024) reason.Count 1 (m.rows.start - 2) c.0 f.2);
    }
