use Rattle.std.proofs.Common.{◌≡◌, ◌≤◌, drop}
use Rattle.words.specs.Numbers.{digits_of}
use Rattle.words.proofs.numbers.natural.Given as goal

abbrev pub invariant-loop-c : goal.invariant-loop-c
invariant-loop-c l = (l.n ≤ l.limit) × (digits_of l.limit l.n (drop l.c-index l.text) ≡ digits_of l.limit 0 l.text)
