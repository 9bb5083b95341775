-- The bytes of a whole table, from its records.
use Rattle.std.specs.Prelude.{◌≡◌, ℕ, ◌+◌, ◌*◌, List, [], ◌∷◌, ◌++◌, length, Ok, Result, nat_le, slice_index, slice_index_or}
use Rattle.packed.specs.declared.constructor.Fields.{Fields}
use Rattle.packed.specs.declared.fault.Fault.{Fault}
use Rattle.packed.specs.declared.fault.Reason.TheVariants as reason
use Rattle.packed.specs.Trees.{low}
use Rattle.table.specs.declared.function.Function.{Function}
use Rattle.table.specs.declared.row.Row.{Row}
use Rattle.table.specs.declared.section.Layout.{Layout}
use Rattle.table.specs.Encoding.{row_bytes}
use Rattle.packed.specs.Faults.{given}
use Rattle.table.specs.Sections.{onward, sections_of}
use Rattle.table.specs.Table.{constructors_in, functions_in, rows_in, sizes_in, table_of}

-- four places, each with its byte
abbrev pub four : List ℕ → List ℕ
four xs = slice_index xs 0 ∷ slice_index xs 1 ∷ slice_index xs 2 ∷ slice_index xs 3 ∷ []

abbrev pub fields_bytes : Fields → List ℕ
fields_bytes f = f.integers ∷ f.subtrees ∷ four f.types

abbrev pub function_bytes : Function → List ℕ
function_bytes f = f.parameters ∷ (four f.kinds ++ (f.result ∷ low 2 f.first))

-- the bytes of records, one behind the other
abbrev pub spelt : {A : Type 0} → (A → List ℕ) → List A → List ℕ
spelt spell [] = []
spelt spell (x ∷ xs) = spell x ++ spelt spell xs

-- a section: its count in a word, then its records
abbrev pub section_bytes : {A : Type 0} → (A → List ℕ) → List A → List ℕ
section_bytes spell xs = low 2 (length xs) ++ spelt spell xs

module _ (sizes : List ℕ) (fields : List Fields) (functions : List Function) (rows : List Row) where
  -- the edition, then the four sections
  abbrev pub table_bytes : List ℕ
  table_bytes = 1 ∷ ((low 2 (length sizes) ++ sizes) ++ (section_bytes fields_bytes fields ++ (section_bytes function_bytes functions ++ section_bytes row_bytes rows)))

  -- how many bytes that is
  abbrev pub table_length : ℕ
  table_length = 9 + length sizes + length fields * 6 + length functions * 8 + length rows * 16

  -- Each count must fit its word, and the bytes the buffer. A refusal of a count has the number of its section, from 0 on, as
  -- its place.
  abbrev pub write_of : ℕ → Result ℕ Fault
  write_of room =
      onward (given (nat_le (length sizes) 65535) reason.Count 4 0) (λ _.
      onward (given (nat_le (length fields) 65535) reason.Count 4 1) (λ _.
      onward (given (nat_le (length functions) 65535) reason.Count 4 2) (λ _.
      onward (given (nat_le (length rows) 65535) reason.Count 4 3) (λ _.
      onward (given (nat_le table_length room) reason.ShortBuffer 4 0) (λ _.
      Ok table_length)))))

  -- these bytes read back as these records, section by section
  pub record ReadsBack (bs : List ℕ) : Type 0 where
    pub edition : slice_index_or bs 0 0 ≡ 1
    pub layout : Layout
    pub sections : sections_of bs ≡ Ok layout
    pub all : layout.rows.end ≡ length bs
    -- if the bytes are a table, these are its sections
    pub read : (l : Layout) → table_of bs ≡ Ok l → l ≡ layout
    pub types : sizes_in bs layout ≡ sizes
    pub constructors : constructors_in bs layout ≡ fields
    pub declared : functions_in bs layout ≡ functions
    pub described : rows_in bs layout ≡ rows
