use Rattle.std.proofs.Common.{arith}
use Rattle.std.proofs.lemmas.List.{take_rest}
use Rattle.packed.proofs.Counts.{here, counted-more}
use Rattle.packed.proofs.unpacking.node_count.Goals as goal

pub slice_bounds-rest-count : goal.slice_bounds-rest-count
slice_bounds-rest-count c =
    let w = rw c.in-Some.ensures.cases.0 at c.loop-tag.invariant in
    omega (arith, c.from.ensures, c.integers.ensures.value, (here w).fits)

pub slice_bounds-rest-start : goal.slice_bounds-rest-start
slice_bounds-rest-start c =
    let w = rw c.in-Some.ensures.cases.0 at c.loop-tag.invariant in
    omega (arith, c.from.ensures, c.integers.ensures.value, (here w).fits)

pub loop-tag-preserved : goal.loop-tag-preserved
loop-tag-preserved c =
    let w = rw c.in-Some.ensures.cases.0 at c.loop-tag.invariant in
    rw (take_rest, c.from.ensures, c.integers.ensures.value) (counted-more w)
