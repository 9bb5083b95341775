-- What a table is, in words of its own: sections that fit, numbers that have a meaning, rows in descent order.
use Rattle.std.specs.Prelude.{◌≡◌, ℕ, ◌<◌, true, List, map, None, slice_index_or}
use Rattle.packed.specs.Forms.{limit_of}
use Rattle.table.specs.declared.section.Layout.{Layout}
use Rattle.table.specs.Laid.{Laid}
use Rattle.table.specs.Spans.{Bodies}
use Rattle.table.specs.Table.{sizes_in, constructors_in, functions_in, rows_in, fair_function_at, fair_row_at}

-- bytes that are a table with its sections there
pub record Formed (bs : List ℕ) (l : Layout) : Type 0 where
  pub laid : Laid bs l
  pub edition : slice_index_or bs 0 0 ≡ 1
  -- types and constructors break no limit
  pub limits : limit_of (sizes_in bs l) (constructors_in bs l) ≡ None
  -- each function and each row is fair
  pub functions : (i : ℕ) → i < l.functions.count → fair_function_at bs l i ≡ true
  pub rows : (i : ℕ) → i < l.rows.count → fair_row_at bs l i ≡ true
  -- the functions' bodies stand one behind the other, and nothing behind them
  pub order : Bodies (rows_in bs l) 0 (map (λ f. f.first) (functions_in bs l))
