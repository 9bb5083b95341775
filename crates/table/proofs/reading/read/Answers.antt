use Rattle.std.proofs.Common.{◌≡◌, Ok, rules}
use Rattle.table.specs.Table.{table_of}
use Rattle.table.proofs.Forming.{forming}
use Rattle.table.proofs.Firsting.{firsting}
use Rattle.table.proofs.Refusing.{refusing}
use Rattle.table.proofs.reading.read.Goals as goal

pub returns-in_err-parts : goal.returns-in_err-parts
returns-in_err-parts c =
    let value : c.from_residual.result ≡ table_of c.args.bytes.now = search rules in
    record { value = value; formed = forming c.args.bytes.now c.from_residual.result value; first = firsting c.args.bytes.now c.from_residual.result value; only = refusing c.args.bytes.now c.from_residual.result value }

pub returns : goal.returns
returns c =
    let value : Ok c.in_ok-parts.field-0.layout ≡ table_of c.args.bytes.now = search rules in
    record { value = value; formed = forming c.args.bytes.now (Ok c.in_ok-parts.field-0.layout) value; first = firsting c.args.bytes.now (Ok c.in_ok-parts.field-0.layout) value; only = refusing c.args.bytes.now (Ok c.in_ok-parts.field-0.layout) value }
