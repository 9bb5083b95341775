use Rattle.std.proofs.Common.{◌≡◌, ℕ, List, Option, length, vec_items}
use Rattle.words.specs.Text.{each_of, pieces, Reads}
use Rattle.words.proofs.Each.{after}
use Rattle.words.proofs.pieces.each_piece.Given as goal

abbrev pub invariant-loop-one : goal.invariant-loop-one
invariant-loop-one g l = (meant : List ℕ → Option g.row.T.Denot) → Reads g.F.Fn l.read meant → after (vec_items l.all) (each_of meant (pieces 44 l.rest)) ≡ each_of meant (pieces 44 l.text)

abbrev pub decreases-loop-one : goal.decreases-loop-one
decreases-loop-one g l = length l.rest
