use Rattle.std.proofs.Common.{◌≡◌, length, Ok, Err, arith, rules}
use Rattle.packed.specs.Shaped.{forms_of}
use Rattle.packed.specs.Packing.{bytes_of, pack_of, filled}
use Rattle.packed.proofs.Shaping.{nodes-whole, packed-laws}
use Rattle.packed.proofs.packing.pack.Goals as goal

pub packed_len-length-requires : goal.packed_len-length-requires
packed_len-length-requires c =
    let accepted : c.whole.result ≡ Ok tt = search rules in
    nodes-whole c.args.shapes.now c.args.ty c.args.nodes.now (rw accepted at c.whole.ensures.seen)

pub put_heads-requires-clause-whole : goal.put_heads-requires-clause-whole
put_heads-requires-clause-whole c =
    let accepted : c.whole.result ≡ Ok tt = search rules in
    nodes-whole c.args.shapes.now c.args.ty c.args.nodes.now (rw accepted at c.whole.ensures.seen)

pub returns-then-from-types : goal.returns-then-from-types
returns-then-from-types c =
    let value : Err c.refused.result ≡ pack_of (forms_of c.args.shapes.now) c.args.shapes.now.types c.args.ty c.args.nodes.now (length c.args.out.now) = search rules in
    let after : c.args.out.now ≡ filled (Err c.refused.result) (bytes_of (forms_of c.args.shapes.now) c.args.nodes.now) c.args.out.now = search rules in
    let laws = packed-laws c.args.shapes.now c.args.ty c.args.nodes.now c.args.out.now c.args.out.now (Err c.refused.result) value after (λ known. absurd (omega arith)) in
    record { value = value; after = after; judged = laws.0; accepts = laws.1; back = laws.2 }

pub returns-in_err-map_err : goal.returns-in_err-map_err
returns-in_err-map_err c =
    let value : c.from_residual.result ≡ pack_of (forms_of c.args.shapes.now) c.args.shapes.now.types c.args.ty c.args.nodes.now (length c.args.out.now) = search rules in
    let after : c.args.out.now ≡ filled (c.from_residual.result) (bytes_of (forms_of c.args.shapes.now) c.args.nodes.now) c.args.out.now = search rules in
    let laws = packed-laws c.args.shapes.now c.args.ty c.args.nodes.now c.args.out.now c.args.out.now (c.from_residual.result) value after (λ known. rw c.whole.ensures.value at c.whole.ensures.seen) in
    record { value = value; after = after; judged = laws.0; accepts = laws.1; back = laws.2 }

pub returns-then-length-out : goal.returns-then-length-out
returns-then-length-out c =
    let value : Err c.refused-then-length-out.result ≡ pack_of (forms_of c.args.shapes.now) c.args.shapes.now.types c.args.ty c.args.nodes.now (length c.args.out.now) = search rules in
    let after : c.args.out.now ≡ filled (Err c.refused-then-length-out.result) (bytes_of (forms_of c.args.shapes.now) c.args.nodes.now) c.args.out.now = search rules in
    let laws = packed-laws c.args.shapes.now c.args.ty c.args.nodes.now c.args.out.now c.args.out.now (Err c.refused-then-length-out.result) value after (λ known. rw c.whole.ensures.value at c.whole.ensures.seen) in
    record { value = value; after = after; judged = laws.0; accepts = laws.1; back = laws.2 }

pub returns : goal.returns
returns c =
    let value : Ok c.packed_len-length.result ≡ pack_of (forms_of c.args.shapes.now) c.args.shapes.now.types c.args.ty c.args.nodes.now (length c.args.out.now) = search rules in
    let after : c.put_heads.new.out ≡ filled (Ok c.packed_len-length.result) (bytes_of (forms_of c.args.shapes.now) c.args.nodes.now) c.args.out.now = search rules in
    let laws = packed-laws c.args.shapes.now c.args.ty c.args.nodes.now c.args.out.now c.put_heads.new.out (Ok c.packed_len-length.result) value after (λ known. rw c.whole.ensures.value at c.whole.ensures.seen) in
    record { value = value; after = after; judged = laws.0; accepts = laws.1; back = laws.2 }
