use Rattle.checker.proofs.checked.Checked.unpack.Goals as goal

pub returns-clause-value : goal.returns-clause-value
returns-clause-value c = cc
