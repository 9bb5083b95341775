-- What is known of a table that was read.
use Rattle.std.proofs.Common.{◌≡◌, ℕ, ◌*◌, List, [], ◌∷◌, length, take, drop, Ok, Err, Result, refl, ap, arith}
use Rattle.packed.specs.declared.constructor.Constructor.{Constructor}
use Rattle.packed.specs.declared.fault.Fault.{Fault}
use Rattle.packed.specs.Forms.{numbered}
use Rattle.packed.specs.Shaped.{forms_of}
use Rattle.table.specs.declared.section.Layout.{Layout}
use Rattle.table.specs.declared.table.Table.{Table}
use Rattle.table.specs.Rows.{row_of}
use Rattle.table.specs.Sections.{within}
use Rattle.table.specs.Meaning.{fair_row}
use Rattle.table.specs.Table.{accepted, constructors_in, numbers_of, rows_in, sizes_in, table_of, terms_in}
use Rattle.table.specs.Tabled.{bytes_of}
use Rattle.table.specs.Formed.{Formed}
use Rattle.table.proofs.Forming.{formed}
use Rattle.table.proofs.Meanings.{types_same}
use Rattle.table.proofs.Rowing.{rows_all, row-from-test}

pub accepted-ok : (r : Result Layout Fault) (l : Layout) → accepted r ≡ l ∷ [] → r ≡ Ok l
accepted-ok (Ok m) l e = let same : m ≡ l = cc in ap Ok same
accepted-ok (Err f) l e = absurd (let z = ap length e in omega arith)

-- constructors with the same numbers are the same
pub numbers-same : (cs ds : List Constructor) → numbers_of cs ≡ numbers_of ds → cs ≡ ds
numbers-same [] [] e = refl
numbers-same [] (d ∷ ds) e = absurd (let z = ap length e in omega arith)
numbers-same (c ∷ cs) [] e = absurd (let z = ap length e in omega arith)
numbers-same (c ∷ cs) (d ∷ ds) e =
    let of' : c.of ≡ d.of = cc in
    let integers : c.fields.integers ≡ d.fields.integers = cc in
    let subtrees : c.fields.subtrees ≡ d.fields.subtrees = cc in
    let types : c.fields.types ≡ d.fields.types = cc in
    let others : numbers_of cs ≡ numbers_of ds = cc in
    λ i. record { of = of' i; fields = record { integers = integers i; subtrees = subtrees i; types = types i } } ∷ numbers-same cs ds others i

-- in a table every row record is a row
pub formed-whole : (bs : List ℕ) (l : Layout) → Formed bs l → length (rows_in bs l) ≡ l.rows.count
formed-whole bs l f = rows_all l.rows.count (within bs l.rows) (λ k h. row-from-test (row_of (take 16 (drop (k * 16) (within bs l.rows)))) (fair_row (terms_in bs l)) (f.rows k h))

module _ (t : Table) where
  pub table-read : table_of (bytes_of t) ≡ Ok t.layout
  table-read = accepted-ok (table_of (bytes_of t)) t.layout t.read

  pub table-formed : Formed (bytes_of t) t.layout
  table-formed = formed (bytes_of t) t.layout table-read

  pub table-shaped : forms_of t.shapes ≡ numbered 0 (sizes_in (bytes_of t) t.layout) (constructors_in (bytes_of t) t.layout)
  table-shaped = numbers-same (forms_of t.shapes) (numbered 0 (sizes_in (bytes_of t) t.layout) (constructors_in (bytes_of t) t.layout)) t.shaped

  pub table-types : t.shapes.types ≡ t.layout.types.count
  table-types = types_same (bytes_of t) t.layout table-formed.laid t.shapes t.sized table-shaped
