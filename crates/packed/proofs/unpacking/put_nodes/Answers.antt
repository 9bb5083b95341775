use Rattle.std.proofs.Common.{◌∙◌, ap, arith}
use Rattle.std.proofs.lemmas.List.{take_rest}
use Rattle.packed.specs.Packing.{integers_in}
use Rattle.packed.specs.Trees.{node_of}
use Rattle.packed.proofs.Counts.{here, filled_more}
use Rattle.packed.proofs.unpacking.put_nodes.Goals as goal

pub node-requires-clause-within : goal.node-requires-clause-within
node-requires-clause-within c =
    let w = rw c.in-Some.ensures.cases.0 at c.loop-place.invariant in
    omega (arith, c.integers-k.ensures.value, (here w.counted).fits)

pub slice_bounds-rest-count : goal.slice_bounds-rest-count
slice_bounds-rest-count c =
    let w = rw c.in-Some.ensures.cases.0 at c.loop-place.invariant in
    omega (arith, c.from.ensures, c.integers-k.ensures.value, (here w.counted).fits)

pub slice_bounds-rest-start : goal.slice_bounds-rest-start
slice_bounds-rest-start c =
    let w = rw c.in-Some.ensures.cases.0 at c.loop-place.invariant in
    omega (arith, c.from.ensures, c.integers-k.ensures.value, (here w.counted).fits)

pub loop-place-preserved : goal.loop-place-preserved
loop-place-preserved c =
    let w = rw c.in-Some.ensures.cases.0 at c.loop-place.invariant in
    let read = c.node.ensures.value ∙ ap (λ k. node_of c.in-Some.tag.now (integers_in k c.in-Some.behind.now)) c.integers-k.ensures.value in
    rw (take_rest, c.from.ensures, c.integers-k.ensures.value) (filled_more w (omega arith) c.node.result read)
