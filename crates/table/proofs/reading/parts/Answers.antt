use Rattle.std.proofs.Common.{sym}
use Rattle.table.proofs.Laying.{laid}
use Rattle.table.proofs.Meanings.{meaning-whole}
use Rattle.table.proofs.reading.parts.Goals as goal

pub invariant_of-sections : goal.invariant_of-sections
invariant_of-sections c = record { laid = laid c.args.bytes.now c.in_ok-layout.layout (sym c.in_ok-layout.ensures.value) }

pub rows-requires : goal.rows-requires
rows-requires c =
    let bs = c.args.bytes.now in
    let l = c.in_ok-layout.layout in
    let fine = laid bs l (sym c.in_ok-layout.ensures.value) in
    meaning-whole bs l fine tt (sym c.in_ok-shapes.ensures.value)
