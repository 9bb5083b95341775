use Rattle.std.proofs.Common.{vec_items, [], ap, sym, ◌∙◌, arith}
use Rattle.words.specs.Text.{each_of}
use Rattle.words.proofs.Each.{each-start, each-more}
use Rattle.words.proofs.Spelling.{odd, pairs-even, pair_byte}
use Rattle.words.proofs.hex.bytes_of.Goals as goal

pub returns-in_default : goal.returns-in_default
returns-in_default c = record { value = sym (odd c.args.text.now (λ e. omega (arith, e, c.in_default.len_at_least, c.as_chunks.ensures.back_len))) }

pub loop-high-init : goal.loop-high-init
loop-high-init c =
    let even = pairs-even c.args.text.now (omega (arith, c.in_default-empty.len_below, c.as_chunks.ensures.back_len)) in
    each-start _ _ _ c.new-bytes.ensures.items (ap (each_of pair_byte) c.as_chunks.ensures.front ∙ sym even)

pub loop-high-preserved : goal.loop-high-preserved
loop-high-preserved c = each-more pair_byte c.as_chunks.result.0.now c.loop-high.high-index [] (vec_items c.loop-high.bytes) _ (vec_items c.push.new.self) c.in-Some.b c.loop-high-test.true c.in-Some.ensures.value c.in_ok-push.ensures.items c.loop-high.invariant
