use Rattle.std.proofs.Common.{rules}
use Rattle.report.proofs.Told.{folders-told}
use Rattle.report.proofs.report.report_on.Goals as goal

-- the nodes that were unpacked are those that were packed, and so the office's; and so are their rows
pub returns-clause-told : goal.returns-clause-told
returns-clause-told c = search (rules, folders-told)
