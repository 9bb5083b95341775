use Rattle.std.proofs.Common.{◌≡◌, ℕ, ◌+◌, ◌*◌, ◌<◌, List, ◌++◌, take, Some}
use Rattle.std.specs.List.{slice_get}
use Rattle.packed.specs.Buffers.{Front}
use Rattle.table.specs.Writing.{spelt}
use Rattle.table.proofs.writing.put_records.Given as goal

-- the records so far stand behind what stood before the loop, and are described by their bytes
abbrev pub invariant-loop-i : goal.invariant-loop-i
invariant-loop-i g l =
    ((word old : List ℕ) → Front word old l.at l.initial.out → Front (word ++ spelt g.T.Spelled.spell (take l.i l.records)) old (l.at + l.i * g.row.N) l.out)
    × ((k : ℕ) → k < l.i → (x : _) → slice_get l.records k ≡ Some x → g.T.Spelled.back x)
