use Rattle.std.proofs.Common.{ap, ◌∙◌}
use Rattle.std.specs.Option.{option_map}
use Rattle.words.proofs.Cutting.{head-found, tail-found, tail-missed}
use Rattle.words.proofs.text.split_once.Goals as goal

pub returns-clause-before : goal.returns-clause-before
returns-clause-before c = head-found _ _ _ c.in_ok-at.ensures.value

pub returns-clause-behind : goal.returns-clause-behind
returns-clause-behind c = tail-found _ _ _ c.in_ok-at.ensures.value

pub returns-in_err-at-clause-behind : goal.returns-in_err-at-clause-behind
returns-in_err-at-clause-behind c = ap (option_map (λ p. p.1.now)) c.from_residual.ensures ∙ tail-missed c.args.separator c.args.text.now c.in_err-at.ensures.value
