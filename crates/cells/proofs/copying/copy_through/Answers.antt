use Rattle.std.proofs.Common.{length, sym, ◌∙◌, arith}
use Rattle.std.proofs.lemmas.List.{length-take-le}
use Rattle.cells.proofs.Copies.{hold-is, held-got, copied_is, copy_got}
use Rattle.cells.proofs.copying.copy_through.Goals as goal

pub fetch-requires : goal.fetch-requires
fetch-requires g c i h =
    let bytes = c.args.bytes.now in
    let o = hold-is _ _ _ bytes (sym c.in_ok-number.was ∙ c.hold.ensures.value) c.hold.ensures.after in
    let n = length-take-le (length bytes) c.args.back.now (omega arith) in
    rw (o.2, o.1) (held-got (g.S.Store.meaning c.args.store.now) bytes i (omega arith))

pub returns-clause-filled : goal.returns-clause-filled
returns-clause-filled g c =
    let o = hold-is _ _ _ c.args.bytes.now (sym c.in_ok-number.was ∙ c.hold.ensures.value) c.hold.ensures.after in
    copy_got _ _ _ c.args.bytes.now c.args.back.now c.fetch.new.back o.1 o.2 (omega arith) c.fetch.ensures.after

pub returns-clause-laws : goal.returns-clause-laws
returns-clause-laws g c =
    let o = hold-is _ _ _ c.args.bytes.now (sym c.in_ok-number.was ∙ c.hold.ensures.value) c.hold.ensures.after in
    copied_is _ _ _ c.args.bytes.now o.0 o.1 o.2 (g.S.Store.sound c.hold.new.store)
