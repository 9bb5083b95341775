-- The first fault of bytes that are no table, by what is right before it.
use Rattle.std.specs.Prelude.{◌≡◌, ℕ, ◌+◌, ◌-◌, ◌*◌, ◌<◌, ◌≤◌, true, false, List, map, length, Some, None, ◌≢◌, slice_index}
use Rattle.packed.specs.declared.constructor.Limit.{Limit}
use Rattle.packed.specs.declared.fault.Fault.{Fault}
use Rattle.packed.specs.declared.fault.Reason.TheVariants as reason
use Rattle.packed.specs.Forms.{limit_of, total}
use Rattle.table.specs.declared.section.Section.{Section}
use Rattle.table.specs.declared.section.Layout.{Layout}
use Rattle.table.specs.Rows.{word}
use Rattle.packed.specs.Faults.{found}
use Rattle.table.specs.Sections.{in_range, within}
use Rattle.table.specs.Laid.{Lies, Laid}
use Rattle.table.specs.Faults.{Faulty}
use Rattle.table.specs.Table.{limit_fault, sizes_in, constructors_in, functions_in, rows_in, fair_function_at, fair_row_at}

-- Reached bs width at: a section of records of this width has its count at `at`, and all before it is whole.
pub data Reached (bs : List ℕ) : ℕ → ℕ → Type 0 where
  types : 1 ≤ length bs → Reached bs 1 1
  constructors : {t : Section} → Reached bs 1 1 → Lies 1 bs 1 t → Reached bs 6 t.end
  functions : {at : ℕ} {c : Section} → Reached bs 6 at → Lies 6 bs at c → Reached bs 8 c.end
  rows : {at : ℕ} {f : Section} → Reached bs 8 at → Lies 8 bs at f → Reached bs 16 f.end

-- Cut bs p: p is where the first count or record starts that is not whole, or the end where it should start.
pub data Cut (bs : List ℕ) : ℕ → Type 0 where
  edition : length bs ≡ 0 → Cut bs 0
  count : {width at : ℕ} → Reached bs width at → at ≤ length bs → length bs < at + 2 → Cut bs at
  item : {width at i : ℕ} → Reached bs width at → i < word bs at → at + 2 + i * width ≤ length bs → length bs < at + 2 + (i + 1) * width → Cut bs (at + 2 + i * width)

-- four sections, one behind the other, within the bytes
pub record Whole (bs : List ℕ) (l : Layout) : Type 0 where
  pub some : 1 ≤ length bs
  pub types : Lies 1 bs 1 l.types
  pub constructors : Lies 6 bs l.types.end l.constructors
  pub functions : Lies 8 bs l.constructors.end l.functions
  pub rows : Lies 16 bs l.functions.end l.rows

-- Miscounted bs l s: the count of s is the first that is beyond its limit, or not what the type bytes add up to.
pub data Miscounted (bs : List ℕ) (l : Layout) : Section → Type 0 where
  types : in_range 1 l.types.count 16 ≡ false → Miscounted bs l l.types
  sum : in_range 1 l.types.count 16 ≡ true → (total (within bs l.types) ≢ l.constructors.count) → Miscounted bs l l.constructors
  constructors : in_range 1 l.types.count 16 ≡ true → 64 < l.constructors.count → Miscounted bs l l.constructors
  functions : in_range 1 l.types.count 16 ≡ true → total (within bs l.types) ≡ l.constructors.count → l.constructors.count ≤ 64 → in_range 1 l.functions.count 32 ≡ false → Miscounted bs l l.functions
  rows : in_range 1 l.types.count 16 ≡ true → total (within bs l.types) ≡ l.constructors.count → l.constructors.count ≤ 64 → in_range 1 l.functions.count 32 ≡ true → in_range 1 l.rows.count 1024 ≡ false → Miscounted bs l l.rows

module _ (bs : List ℕ) (l : Layout) where
  -- the first record without a meaning: all before it have one
  pub data Unmeant : Fault → Type 0 where
    edition : (slice_index bs 0 ≢ 1) → Unmeant (found reason.Meaning 2 0)
    form : {b : Limit} → slice_index bs 0 ≡ 1 → limit_of (sizes_in bs l) (constructors_in bs l) ≡ Some b → Unmeant (limit_fault l b)
    function : {i : ℕ} → slice_index bs 0 ≡ 1 → limit_of (sizes_in bs l) (constructors_in bs l) ≡ None → i < l.functions.count → fair_function_at bs l i ≡ false → ((j : ℕ) → j < i → fair_function_at bs l j ≡ true) → Unmeant (found reason.Meaning 2 (l.functions.start + i * 8))
    row : {i : ℕ} → slice_index bs 0 ≡ 1 → limit_of (sizes_in bs l) (constructors_in bs l) ≡ None → ((j : ℕ) → j < l.functions.count → fair_function_at bs l j ≡ true) → i < l.rows.count → fair_row_at bs l i ≡ false → ((j : ℕ) → j < i → fair_row_at bs l j ≡ true) → Unmeant (found reason.Meaning 2 (l.rows.start + i * 16))

-- First bs f: f is the first fault of these bytes.
pub data First (bs : List ℕ) : Fault → Type 0 where
  ends : {p : ℕ} → Cut bs p → First bs (found reason.BytesEnd 1 p)
  behind : {l : Layout} → Whole bs l → l.rows.end < length bs → First bs (found reason.BytesBehind 1 l.rows.end)
  count : {l : Layout} {s : Section} → Whole bs l → l.rows.end ≡ length bs → Miscounted bs l s → First bs (found reason.Count 1 (s.start - 2))
  meaning : {l : Layout} {f : Fault} → Laid bs l → Unmeant bs l f → First bs f
  order : {l : Layout} {n : ℕ} → Laid bs l → slice_index bs 0 ≡ 1 → limit_of (sizes_in bs l) (constructors_in bs l) ≡ None → ((j : ℕ) → j < l.functions.count → fair_function_at bs l j ≡ true) → ((j : ℕ) → j < l.rows.count → fair_row_at bs l j ≡ true) → Faulty (rows_in bs l) (map (λ f. f.first) (functions_in bs l)) n → ((q : ℕ) → Faulty (rows_in bs l) (map (λ f. f.first) (functions_in bs l)) q → n ≤ q) → First bs (found reason.RowOrder 2 (l.rows.start + n * 16))
