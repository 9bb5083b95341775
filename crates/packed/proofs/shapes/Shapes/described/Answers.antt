-- Shapes of a description that breaks no limit hold one that breaks none, numbered.
use Rattle.std.proofs.Common.{is_some, sym, ap, ◌∙◌}
use Rattle.packed.specs.Forms.{limit_of, fields_in, numbered}
use Rattle.packed.proofs.Fair.{limits}
use Rattle.packed.proofs.Numbers.{fields-numbered}
use Rattle.packed.proofs.shapes.Shapes.described.Goals as goal

pub invariant_of-result : goal.invariant_of-result
invariant_of-result c =
    let sizes = c.args.sizes.now in
    let fields = c.args.fields.now in
    let kept = limits sizes fields (ap is_some c.requires) in
    let front = c.padded.ensures.front in
    let filled = c.number.ensures.filled in
    let back = ap fields_in filled ∙ fields-numbered 0 sizes fields kept.count in
    record {
      room = (c.padded.ensures.room, c.number.ensures.room);
      used = (kept.few, kept.most);
      fair = (λ i. is_some (limit_of (front i) (back i))) ∙ ap is_some c.requires;
      rising = filled ∙ (λ i. numbered 0 (sym front i) (sym back i));
    }
