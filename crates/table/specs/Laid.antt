-- Sections that fit the bytes, in words of their own.
use Rattle.std.specs.Prelude.{◌≡◌, ℕ, ◌+◌, ◌*◌, ◌≤◌, List, length}
use Rattle.packed.specs.Forms.{total}
use Rattle.table.specs.declared.section.Section.{Section}
use Rattle.table.specs.declared.section.Layout.{Layout}
use Rattle.table.specs.Rows.{word}
use Rattle.table.specs.Sections.{within}

-- a section that lies within the bytes
pub record Lies (width : ℕ) (bs : List ℕ) (at : ℕ) (s : Section) : Type 0 where
  pub starts : s.start ≡ at + 2
  pub counted : s.count ≡ word bs at
  pub ends : s.end ≡ s.start + s.count * width
  pub inside : s.end ≤ length bs

-- four sections that lie one behind the other, up to the last byte, with counts within their limits
pub record Laid (bs : List ℕ) (l : Layout) : Type 0 where
  pub some : 1 ≤ length bs
  pub types : Lies 1 bs 1 l.types
  pub constructors : Lies 6 bs l.types.end l.constructors
  pub functions : Lies 8 bs l.constructors.end l.functions
  pub rows : Lies 16 bs l.functions.end l.rows
  pub all : length bs ≤ l.rows.end
  pub type_count : (1 ≤ l.types.count) × (l.types.count ≤ 16)
  pub said : total (within bs l.types) ≡ l.constructors.count
  pub constructor_count : l.constructors.count ≤ 64
  pub function_count : (1 ≤ l.functions.count) × (l.functions.count ≤ 32)
  pub row_count : (1 ≤ l.rows.count) × (l.rows.count ≤ 1024)
