use Rattle.table.specs.Tabled.{bytes_of}
use Rattle.checker.proofs.Checking.{built-in-fine}
use Rattle.checker.proofs.checked.Checked.built_in.Goals as goal

pub invariant_of-result : goal.invariant_of-result
invariant_of-result c = record { fine = built-in-fine (bytes_of c.built_in.result) c.built_in.ensures.value }
