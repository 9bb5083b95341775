-- The bytes of nodes, one node at a time.
use Rattle.std.proofs.Common.{◌≡◌, ℕ, suc, ◌+◌, ◌*◌, ◌<◌, ◌≤◌, List, [], ◌∷◌, ◌++◌, length, get_or, take, drop, sum_by, sym, refl, ap, ◌∙◌, arith}
use Rattle.std.proofs.lemmas.List.{append_assoc, append-nil, drop_more, take_more, length-append, length-take-le}
use Rattle.std.proofs.lemmas.List.Sums.{sum_by-cons}
use Rattle.std.proofs.lemmas.Option.{slice_get-get_or}
use Rattle.packed.specs.declared.constructor.Constructor.{Constructor}
use Rattle.packed.specs.declared.node.Node.{Node}
use Rattle.packed.specs.Trees.{Whole, AllWhole, as_bytes}
use Rattle.packed.specs.Packing.{integers_of, bytes_of}
use Rattle.packed.proofs.Digits.{length-eights}

-- what stands in a read outside of the list
abbrev pub blank_node : Node
blank_node = record { constructor = 0; integers = [] }

-- the bytes of one node
abbrev pub head_of : List Constructor → Node → List ℕ
head_of g n = as_bytes n.constructor (take (integers_of g n.constructor) n.integers)

pub length-head : (g : List Constructor) (n : Node) → Whole n → integers_of g n.constructor ≤ 4 → length (head_of g n) ≡ 1 + 8 * integers_of g n.constructor
length-head g n w h =
    let k = integers_of g n.constructor in
    let four = w.four in
    let front = length-take-le k n.integers (omega arith) in
    let all = length-eights (take k n.integers) in
    omega arith

module _ (g : List Constructor) (ns : List Node) (i : ℕ) (h : i < length ns) where
  pub bytes-step : bytes_of g (drop i ns) ≡ head_of g (get_or ns i blank_node) ++ bytes_of g (drop (i + 1) ns)
  bytes-step = ap (bytes_of g) (drop_more ns i blank_node h)

  pub whole-at : AllWhole ns → Whole (get_or ns i blank_node)
  whole-at all = all i (get_or ns i blank_node) (slice_get-get_or ns i blank_node h)

pub bytes-append : (g : List Constructor) (ms ns : List Node) → bytes_of g (ms ++ ns) ≡ bytes_of g ms ++ bytes_of g ns
bytes-append g [] ns = refl
bytes-append g (m ∷ ms) ns = ap (λ l. head_of g m ++ l) (bytes-append g ms ns) ∙ sym (append_assoc (head_of g m) (bytes_of g ms) (bytes_of g ns))

pub bytes-push : (g : List Constructor) (ns : List Node) (i : ℕ) → i < length ns → bytes_of g (take i ns) ++ head_of g (get_or ns i blank_node) ≡ bytes_of g (take (i + 1) ns)
bytes-push g ns i h =
    ap (λ l. bytes_of g (take i ns) ++ l) (sym (append-nil (head_of g (get_or ns i blank_node))))
    ∙ sym (bytes-append g (take i ns) (get_or ns i blank_node ∷ []))
    ∙ ap (bytes_of g) (sym (take_more ns i blank_node h))

pub length-bytes : (g : List Constructor) (ns : List Node) → AllWhole ns → ((k : ℕ) → integers_of g k ≤ 4) → sum_by (λ n. 1 + 8 * integers_of g n.constructor) ns ≡ length (bytes_of g ns)
length-bytes g [] whole few = refl
length-bytes g (n ∷ ns) whole few =
    let head = length-head g n (whole 0 n refl) (few n.constructor) in
    let rest = length-bytes g ns (λ i m e. whole (suc i) m e) few in
    let parts = length-append (head_of g n) (bytes_of g ns) in
    sum_by-cons (λ m. 1 + 8 * integers_of g m.constructor) n ns ∙ omega arith
