use Rattle.std.proofs.Common.{rules}
use Rattle.words.specs.Hex.{written}
use Rattle.localtool.specs.Answers.{unpack_reply_for}
use Rattle.localtool.proofs.unpacking.unpack_answer.Goals as goal

pub returns : goal.returns
returns c = record { value = c.program_answer.ensures.value written unpack_reply_for (λ h w r said. search rules) (λ h p q xs r said. search rules) }
