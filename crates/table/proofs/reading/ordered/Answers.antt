use Rattle.std.proofs.Common.{◌≡◌, ℕ, ◌≤◌, List, length, Some, sym, arith}
use Rattle.table.specs.declared.row.Row.{Row}
use Rattle.table.specs.Held.{rows_of}
use Rattle.table.specs.Order.{disorder, bodies}
use Rattle.table.proofs.Bounds.{disorder-bound}
use Rattle.table.proofs.reading.ordered.Goals as goal

in_rows : (firsts : List ℕ) (rows : List Row) (n : ℕ) → Some n ≡ disorder (bodies firsts) rows 0 → length rows ≤ 1024 → n ≤ 1024
in_rows firsts rows n e h = let b = disorder-bound firsts rows n (sym e) in omega arith

pub overflow_mul-n : goal.overflow_mul-n
overflow_mul-n c =
    let s = c.args.rows.now in
    let b = in_rows _ (rows_of s) c.in-Some.n c.in-Some.ensures.value (let w = s.whole in let f = s.few in omega arith) in
    record { fits = omega arith }

pub overflow_add-start : goal.overflow_add-start
overflow_add-start c =
    let s = c.args.rows.now in
    let b = in_rows _ (rows_of s) c.in-Some.n c.in-Some.ensures.value (let w = s.whole in let f = s.few in omega arith) in
    let low = c.requires in
    record { fits = omega arith }
