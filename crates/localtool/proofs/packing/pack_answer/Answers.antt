use Rattle.std.proofs.Common.{rules}
use Rattle.words.specs.Nodes.{nodes_written}
use Rattle.localtool.specs.Answers.{pack_reply_for}
use Rattle.localtool.proofs.packing.pack_answer.Goals as goal

pub returns : goal.returns
returns c = record { value = c.program_answer.ensures.value nodes_written pack_reply_for (λ h w r said. search rules) (λ h p q xs r said. search rules) }
