use Rattle.cells.proofs.Changing.{all_laws}
use Rattle.cells.proofs.facts.laws.Goals as goal

pub returns : goal.returns
returns c = record { laws = all_laws }
