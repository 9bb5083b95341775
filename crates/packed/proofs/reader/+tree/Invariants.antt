use Rattle.std.proofs.Common.{◌≡◌, ℕ, ◌-◌, ◌<◌, ◌≤◌, List, ◌++◌, length, drop}
use Rattle.packed.specs.Shaped.{forms_of}
use Rattle.packed.proofs.reader.+tree.Given as goal

-- each subtree has at least its head
abbrev pub decreases-tree : goal.decreases-tree
decreases-tree g l = length l.word.now - l.at

-- the subtrees left are read from `end` on as all were from the head's end on
abbrev pub invariant-loop-due : goal.invariant-loop-due
invariant-loop-due g l =
    (l.at < l.end)
    × (l.end ≤ length l.word)
    × ((due : List ℕ) → g.S.Symbol.scan l.word (forms_of l.shapes) (l.due-items ++ due) l.initial.end ≡ g.S.Symbol.scan l.word (forms_of l.shapes) (drop l.due-index l.due-items ++ due) l.end)
    × ((i : ℕ) → l.at ≤ i → i < l.end → g.S.Symbol.fits l.word i)
