use Rattle.words.proofs.Cutting.{head-found, head-missed}
use Rattle.words.proofs.text.head.Goals as goal

pub returns-in-Some : goal.returns-in-Some
returns-in-Some c = record { value = head-found _ _ _ c.in-Some.ensures.value }

pub returns-in-None : goal.returns-in-None
returns-in-None c = record { value = head-missed _ _ c.in-None.ensures.value }
