use Rattle.std.proofs.Common.{◌≡◌, [], ◌∷◌, length, Ok, Err, sym, ◌∙◌, arith, rules}
use Rattle.packed.specs.Shaped.{forms_of}
use Rattle.packed.specs.Packing.{nodes_of, unpack_of, filled}
use Rattle.packed.proofs.Shaping.{unpacked-laws}
use Rattle.packed.proofs.unpacking.unpack.Goals as goal

pub node_count-length-requires : goal.node_count-length-requires
node_count-length-requires c =
    let accepted : c.whole.result ≡ Ok tt = search rules in
    (c.args.ty ∷ [], sym c.whole.ensures.value ∙ accepted)

pub put_nodes-requires-clause-whole : goal.put_nodes-requires-clause-whole
put_nodes-requires-clause-whole c =
    let accepted : c.whole.result ≡ Ok tt = search rules in
    (c.args.ty ∷ [], sym c.whole.ensures.value ∙ accepted)

pub returns-then-from-types : goal.returns-then-from-types
returns-then-from-types c =
    let value : Err c.refused.result ≡ unpack_of (forms_of c.args.shapes.now) c.args.shapes.now.types c.args.ty c.args.bytes.now (length c.args.out.now) = search rules in
    let after : c.args.out.now ≡ filled (Err c.refused.result) (nodes_of (forms_of c.args.shapes.now) 0 c.args.bytes.now) c.args.out.now = search rules in
    let laws = unpacked-laws c.args.shapes.now c.args.ty c.args.bytes.now c.args.out.now c.args.out.now (Err c.refused.result) value after (λ known. absurd (omega arith)) in
    record { value = value; after = after; judged = laws.0; accepts = laws.1; back = laws.2 }

pub returns-in_err-map_err : goal.returns-in_err-map_err
returns-in_err-map_err c =
    let value : c.from_residual.result ≡ unpack_of (forms_of c.args.shapes.now) c.args.shapes.now.types c.args.ty c.args.bytes.now (length c.args.out.now) = search rules in
    let after : c.args.out.now ≡ filled (c.from_residual.result) (nodes_of (forms_of c.args.shapes.now) 0 c.args.bytes.now) c.args.out.now = search rules in
    let laws = unpacked-laws c.args.shapes.now c.args.ty c.args.bytes.now c.args.out.now c.args.out.now (c.from_residual.result) value after (λ known. rw c.whole.ensures.value at c.whole.ensures.seen) in
    record { value = value; after = after; judged = laws.0; accepts = laws.1; back = laws.2 }

pub returns-then-length-out : goal.returns-then-length-out
returns-then-length-out c =
    let value : Err c.refused-then-length-out.result ≡ unpack_of (forms_of c.args.shapes.now) c.args.shapes.now.types c.args.ty c.args.bytes.now (length c.args.out.now) = search rules in
    let after : c.args.out.now ≡ filled (Err c.refused-then-length-out.result) (nodes_of (forms_of c.args.shapes.now) 0 c.args.bytes.now) c.args.out.now = search rules in
    let laws = unpacked-laws c.args.shapes.now c.args.ty c.args.bytes.now c.args.out.now c.args.out.now (Err c.refused-then-length-out.result) value after (λ known. rw c.whole.ensures.value at c.whole.ensures.seen) in
    record { value = value; after = after; judged = laws.0; accepts = laws.1; back = laws.2 }

pub returns : goal.returns
returns c =
    let value : Ok c.node_count-length.result ≡ unpack_of (forms_of c.args.shapes.now) c.args.shapes.now.types c.args.ty c.args.bytes.now (length c.args.out.now) = search rules in
    let after : c.put_nodes.new.out ≡ filled (Ok c.node_count-length.result) (nodes_of (forms_of c.args.shapes.now) 0 c.args.bytes.now) c.args.out.now = search rules in
    let laws = unpacked-laws c.args.shapes.now c.args.ty c.args.bytes.now c.args.out.now c.put_nodes.new.out (Ok c.node_count-length.result) value after (λ known. rw c.whole.ensures.value at c.whole.ensures.seen) in
    record { value = value; after = after; judged = laws.0; accepts = laws.1; back = laws.2 }
