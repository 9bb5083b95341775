use Rattle.std.proofs.Common.{◌∙◌}
use Rattle.table.specs.Meaning.{function_of}
use Rattle.table.proofs.Recording.{records-get}
use Rattle.table.proofs.functions.Functions.get.Goals as goal

pub returns : goal.returns
returns c = let s = c.args.self.now.records in record { value = c.get.ensures.value ∙ records-get 8 function_of s.count s.bytes.now c.args.f }
