use Rattle.std.proofs.lemmas.Bool.Decides.{Decides-eqb}
use Rattle.std.proofs.lemmas.Slice.Eq.{strip_prefix_is}
use Rattle.words.proofs.Cutting.{behind-is}
use Rattle.words.proofs.text.behind_name.Goals as goal

pub returns : goal.returns
returns c = record { value = behind-is _ _ _ (strip_prefix_is Decides-eqb c.args.line.now c.args.name.now c.strip_prefix.result c.strip_prefix.ensures.cases) }
