use Rattle.std.proofs.Common.{rules}
use Rattle.table.specs.Meaning.{function_of}
use Rattle.table.proofs.Recording.{length-records}
use Rattle.table.proofs.functions.Functions.len.Goals as goal

pub returns-clause-value : goal.returns-clause-value
returns-clause-value c = let s = c.args.self.now.records in let all = length-records 8 function_of s.count s.bytes.now in search rules
