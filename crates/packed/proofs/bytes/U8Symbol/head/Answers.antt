use Rattle.std.proofs.Common.{◌≡◌, ◌+◌, ◌<◌, ◌++◌, length, get_or, drop, Some, sym, ap, ◌∙◌, arith, rules}
use Rattle.packed.specs.Forms.{subtrees, form_at}
use Rattle.packed.specs.Shaped.{forms_of}
use Rattle.packed.specs.Reading.{left, read_bytes}
use Rattle.packed.proofs.Scans.{bytes_cut, bytes-head}
use Rattle.packed.proofs.bytes.U8Symbol.head.Goals as goal

pub returns-then-word-at-clause-goes : goal.returns-then-word-at-clause-goes
returns-then-word-at-clause-goes c due =
    let inside : c.args.at < length c.args.word.now = search rules in
    let tag : c.in_ok-tag.field-0.now ≡ get_or c.args.word.now c.args.at 0 = search rules in
    let named : form_at (forms_of c.args.shapes.now) c.args.ty c.in_ok-tag.field-0.now ≡ Some c.in_ok-constructor.constructor = search rules in
    bytes_cut (forms_of c.args.shapes.now) c.args.ty due c.args.word.now c.args.at c.in_ok-constructor.constructor inside (rw tag at named) (omega arith)

pub returns-clause-goes : goal.returns-clause-goes
returns-clause-goes c due =
    let k = c.in_ok-constructor.constructor in
    let inside : c.args.at < length c.args.word.now = search rules in
    let tag : c.in_ok-tag.field-0.now ≡ get_or c.args.word.now c.args.at 0 = search rules in
    let named : form_at (forms_of c.args.shapes.now) c.args.ty c.in_ok-tag.field-0.now ≡ Some c.in_ok-constructor.constructor = search rules in
    bytes-head (forms_of c.args.shapes.now) c.args.ty due c.args.word.now c.args.at k inside (rw tag at named) (omega arith)
    ∙ ap (λ n. read_bytes (forms_of c.args.shapes.now) (left 0 (subtrees k ++ due)) (drop (c.args.at + n) c.args.word.now) (c.args.at + n)) (sym c.head_len-length.ensures.value)
