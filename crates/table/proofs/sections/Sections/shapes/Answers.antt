use Rattle.std.proofs.Common.{length, take, sym, ap, ◌∙◌, arith, length-take}
use Rattle.packed.specs.Shaped.{broken}
use Rattle.table.proofs.Limiting.{limit-small}
use Rattle.table.proofs.Meanings.{length-within}
use Rattle.table.proofs.sections.Sections.shapes.Goals as goal

pub map_err-requires : goal.map_err-requires
map_err-requires c l is =
    let s = c.args.self.now in
    let few = s.laid.type_count in
    let a = ap length c.types.ensures.value ∙ length-within 1 s.bytes.now 1 s.layout.types s.laid.types in
    let b = length-take c.len.result c.all_fields-fields.result in
    let room = c.all_fields-fields.ensures.room in
    limit-small c.types.result.now (take c.len.result c.all_fields-fields.result) l (omega arith) (omega arith) (sym c.new.ensures.value ∙ ap broken is)
