use Rattle.std.proofs.Common.{◌+◌, ◌++◌, length, get_or, take, drop, ap, ◌∙◌, arith}
use Rattle.std.proofs.lemmas.List.{length-append}
use Rattle.packed.specs.Packing.{bytes_of}
use Rattle.packed.specs.Trees.{as_bytes}
use Rattle.packed.specs.Shaped.{forms_of}
use Rattle.packed.proofs.Fronts.{front_same}
use Rattle.packed.proofs.Packs.{blank_node, head_of, bytes-step, bytes-push, whole-at, length-head}
use Rattle.packed.proofs.packing.put_heads.Goals as goal

pub put_head-requires-clause-whole : goal.put_head-requires-clause-whole
put_head-requires-clause-whole c = whole-at (forms_of c.args.shapes.now) c.args.nodes.now c.loop-node.node-index c.loop-node-test.true c.requires.whole

pub put_head-requires-clause-room : goal.put_head-requires-clause-room
put_head-requires-clause-room c =
    let g = forms_of c.args.shapes.now in
    let ns = c.args.nodes.now in
    let i = c.loop-node.node-index in
    let n = get_or ns i blank_node in
    let k = c.integers-k.ensures.value in
    let few = c.integers-k.ensures.bound in
    let step = ap length (bytes-step g ns i c.loop-node-test.true) in
    let parts = length-append (head_of g n) (bytes_of g (drop (i + 1) ns)) in
    let head = length-head g n (whole-at g ns i c.loop-node-test.true c.requires.whole) (omega arith) in
    let inv = c.loop-node.invariant.1 in
    let room = c.requires.room in
    omega arith

pub loop-node-preserved : goal.loop-node-preserved
loop-node-preserved c =
    let g = forms_of c.args.shapes.now in
    let ns = c.args.nodes.now in
    let i = c.loop-node.node-index in
    let n = get_or ns i blank_node in
    let k = c.integers-k.ensures.value in
    let few = c.integers-k.ensures.bound in
    let step = ap length (bytes-step g ns i c.loop-node-test.true) in
    let parts = length-append (head_of g n) (bytes_of g (drop (i + 1) ns)) in
    let head = length-head g n (whole-at g ns i c.loop-node-test.true c.requires.whole) (omega arith) in
    let inv = c.loop-node.invariant.1 in
    let now = c.put_head.ensures (bytes_of g (take i ns)) c.args.out.now c.loop-node.invariant.0 in
    (front_same (ap (λ m. bytes_of g (take i ns) ++ as_bytes n.constructor (take m n.integers)) k ∙ bytes-push g ns i c.loop-node-test.true) (omega arith) now, omega arith)
