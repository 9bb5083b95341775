use Rattle.packed.proofs.Numbers.{Numbering}
use Rattle.packed.proofs.shapes.make.number.Given as goal

abbrev pub invariant-loop-i : goal.invariant-loop-i
invariant-loop-i l = Numbering l.sizes l.fields l.of l.left l.i l.constructors
