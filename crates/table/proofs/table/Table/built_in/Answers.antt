use Rattle.std.proofs.Common.{refl}
use Rattle.table.specs.Tabled.{built_in}
use Rattle.table.proofs.Forming.{formed}
use Rattle.table.proofs.table.Table.built_in.Goals as goal

pub returns-clause-formed : goal.returns-clause-formed
returns-clause-formed c = formed built_in _ refl
