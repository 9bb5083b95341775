use Rattle.std.proofs.Common.{ap, ◌∙◌}
use Rattle.std.specs.Option.{option_map}
use Rattle.words.proofs.Cutting.{tail-found, tail-missed}
use Rattle.words.proofs.text.tail.Goals as goal

pub returns-clause-value : goal.returns-clause-value
returns-clause-value c = tail-found _ _ _ c.in_ok-at.ensures.value

pub returns-in_err-at-clause-value : goal.returns-in_err-at-clause-value
returns-in_err-at-clause-value c = ap (option_map (λ x. x.now)) c.from_residual.ensures ∙ tail-missed c.args.separator c.args.text.now c.in_err-at.ensures.value
