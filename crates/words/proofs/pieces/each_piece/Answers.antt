use Rattle.std.proofs.Common.{Some, None, vec_items, ap, ◌∙◌, rules}
use Rattle.std.specs.Fn.{FnReturnsAt}
use Rattle.words.proofs.Piecing.{no-piece, piece-more, piece-all}
use Rattle.words.proofs.pieces.each_piece.Goals as goal

pub returns-in_default : goal.returns-in_default
returns-in_default g c = record {
  value = λ meant reads.
      let said : FnReturnsAt g.F.Fn c.args.read c.head.result.now None = search rules in
      no-piece 44 meant c.args.text.now c.loop-one.rest.now (vec_items c.loop-one.all) (reads c.head.result.now _ said ∙ ap meant c.head.ensures.value) (c.loop-one.invariant meant reads);
}

pub returns-in_default-tail : goal.returns-in_default-tail
returns-in_default-tail g c = record {
  value = λ meant reads.
      let said : FnReturnsAt g.F.Fn c.args.read c.head.result.now (Some c.in-Some.one) = search rules in
      piece-all 44 meant c.args.text.now c.loop-one.rest.now (vec_items c.loop-one.all) (vec_items c.push.new.self) c.in-Some.one
      c.in_ok-push.ensures.items (reads c.head.result.now _ said ∙ ap meant c.head.ensures.value) c.in_default-tail.ensures.value (c.loop-one.invariant meant reads);
}

pub loop-one-preserved : goal.loop-one-preserved
loop-one-preserved g c = λ meant reads.
    let said : FnReturnsAt g.F.Fn c.args.read c.head.result.now (Some c.in-Some.one) = search rules in
    piece-more 44 meant c.args.text.now c.loop-one.rest.now c.in-Some-tail.more.now (vec_items c.loop-one.all) (vec_items c.push.new.self) c.in-Some.one
    c.in_ok-push.ensures.items (reads c.head.result.now _ said ∙ ap meant c.head.ensures.value) c.in-Some-tail.ensures.value (c.loop-one.invariant meant reads)
