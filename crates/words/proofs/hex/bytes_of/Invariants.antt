use Rattle.std.proofs.Common.{◌≡◌, drop, vec_items}
use Rattle.words.specs.Hex.{spelled}
use Rattle.words.specs.Text.{each_of}
use Rattle.words.proofs.Each.{after}
use Rattle.words.proofs.Spelling.{pair_byte}
use Rattle.words.proofs.hex.bytes_of.Given as goal

abbrev pub invariant-loop-high : goal.invariant-loop-high
invariant-loop-high l = after (vec_items l.bytes) (each_of pair_byte (drop l.high-index l.pairs)) ≡ spelled l.text
