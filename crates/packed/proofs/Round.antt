-- A tree's nodes pack to its bytes, and its bytes unpack to its nodes.
use Rattle.std.proofs.Common.{◌≡◌, ℕ, zero, suc, ◌*◌, ◌<◌, ◌≤◌, cond, List, [], ◌∷◌, ◌++◌, length, take, Some, Ok, Err, Result, sym, refl, ap, ◌∙◌, arith}
use Rattle.std.specs.List.{slice_get}
use Rattle.std.proofs.lemmas.List.{append_assoc, append-nil}
use Rattle.std.proofs.lemmas.Bool.{lt-ltb, le-leb}
use Rattle.packed.specs.declared.constructor.Constructor.{Constructor}
use Rattle.packed.specs.declared.fault.Fault.{Fault}
use Rattle.packed.specs.declared.fault.Reason.TheVariants as reason
use Rattle.packed.specs.declared.node.Node.{Node}
use Rattle.packed.specs.Forms.{either, subtrees}
use Rattle.packed.specs.Reading.{left, read_nodes, read_bytes}
use Rattle.packed.specs.Trees.{Tree, Forest, OfType, OfTypes, spelled, spelled_all, padded, node_of, as_node, eights, as_bytes}
use Rattle.packed.specs.Trees.Tree.{tree}
use Rattle.packed.specs.Trees.Forest.{none, more}
use Rattle.packed.specs.Packing.{integers_of, bytes_of, integers_in, nodes_of, refusal, fitted, pack_of, unpack_of}
use Rattle.packed.specs.Laws.{Turned, Accepts}
use Rattle.packed.proofs.Blanks.{take-padded}
use Rattle.packed.proofs.Digits.{length-eights, integers-eights}
use Rattle.packed.proofs.ByteWords.{bytes-accepted}
use Rattle.packed.proofs.NodeWords.{nodes-accepted}

pub nodes-skip : (g : List Constructor) (xs ys : List ℕ) (n : ℕ) → length xs ≡ n → nodes_of g n (xs ++ ys) ≡ nodes_of g 0 ys
nodes-skip g [] ys zero e = refl
nodes-skip g [] ys (suc n) e = absurd (omega arith)
nodes-skip g (x ∷ xs) ys zero e = absurd (omega arith)
nodes-skip g (x ∷ xs) ys (suc n) e = nodes-skip g xs ys n (omega arith)

pub nodes-on : (g : List Constructor) (b : ℕ) (bs : List ℕ) (c : Constructor) → slice_get g b ≡ Some c → nodes_of g 0 (b ∷ bs) ≡ node_of b (integers_in c.fields.integers bs) ∷ nodes_of g (8 * c.fields.integers) bs
nodes-on g b bs c e = ap (λ o. either o [] (λ c. node_of b (integers_in c.fields.integers bs) ∷ nodes_of g (8 * c.fields.integers) bs)) e

pub integers-of : (g : List Constructor) (b : ℕ) (c : Constructor) → slice_get g b ≡ Some c → integers_of g b ≡ c.fields.integers
integers-of g b c e = ap (λ o. either o 0 (λ c. c.fields.integers)) e

module _ (g : List Constructor) where
  mutual
    tree-nodes : (x : Tree) (t : ℕ) (bs : List ℕ) → OfType g t x → nodes_of g 0 (spelled as_bytes x ++ bs) ≡ spelled as_node x ++ nodes_of g 0 bs
    tree-nodes (tree k zs ts) t bs w =
        let c = w.0 in
        let h = w.1 in
        let rest = spelled_all as_bytes ts ++ bs in
        let n = 8 * c.fields.integers in
        let long : length (eights zs) ≡ 8 * w.0.fields.integers = length-eights zs ∙ ap (λ m. 8 * m) h.long in
        let back : integers_in w.0.fields.integers (eights zs ++ rest) ≡ zs = ap (λ m. integers_in m (eights zs ++ rest)) (sym h.long) ∙ integers-eights zs rest h.fit in
        ap (λ l. nodes_of g 0 (k ∷ l)) (append_assoc (eights zs) (spelled_all as_bytes ts) bs)
        ∙ nodes-on g k (eights zs ++ rest) c h.named
        ∙ (λ i. node_of k (back i) ∷ nodes-skip g (eights zs) rest n long i)
        ∙ ap (λ l. node_of k zs ∷ l) (forest-nodes ts (subtrees c) bs w.2)

    forest-nodes : (f : Forest) (ks : List ℕ) (bs : List ℕ) → OfTypes g ks f → nodes_of g 0 (spelled_all as_bytes f ++ bs) ≡ spelled_all as_node f ++ nodes_of g 0 bs
    forest-nodes none ks bs w = refl
    forest-nodes (more x f) ks bs w =
        ap (nodes_of g 0) (append_assoc (spelled as_bytes x) (spelled_all as_bytes f) bs)
        ∙ tree-nodes x w.0 (spelled_all as_bytes f ++ bs) w.3
        ∙ ap (λ l. spelled as_node x ++ l) (forest-nodes f w.1 bs w.4)
        ∙ sym (append_assoc (spelled as_node x) (spelled_all as_node f) (nodes_of g 0 bs))

  pub nodes-of-tree : (x : Tree) (t : ℕ) → OfType g t x → nodes_of g 0 (spelled as_bytes x) ≡ spelled as_node x
  nodes-of-tree x t w = ap (nodes_of g 0) (sym (append-nil (spelled as_bytes x))) ∙ tree-nodes x t [] w ∙ append-nil (spelled as_node x)

  pub unpack-tree : (types t room : ℕ) (x : Tree) → OfType g t x → t < types → length (spelled as_node x) ≤ room → unpack_of g types t (spelled as_bytes x) room ≡ Ok (length (spelled as_node x))
  unpack-tree types t room x w known h =
      ap (λ v. cond v (fitted (read_bytes g (left 0 (t ∷ [])) (spelled as_bytes x) 0) (length (nodes_of g 0 (spelled as_bytes x))) room) (Err (refusal reason.Kind 0))) (lt-ltb t types known)
      ∙ (λ i. fitted (bytes-accepted g x t w i) (length (nodes-of-tree x t w i)) room)
      ∙ ap (λ v. cond v (Ok (length (spelled as_node x))) (Err (refusal reason.ShortBuffer 0))) (le-leb (length (spelled as_node x)) room h)

  -- every tree that fits the buffer is accepted
  pub unpack-accepts : (types t : ℕ) (bs : List ℕ) (room : ℕ) (r : Result ℕ Fault) → r ≡ unpack_of g types t bs room → Accepts as_bytes as_node g types t bs room r
  unpack-accepts types t bs room r e x w known same fits = e ∙ ap (λ l. unpack_of g types t l room) (sym same) ∙ unpack-tree types t room x w known fits

  -- what pack wrote unpacks to the nodes it was given
  pub unpacks-back : (types t : ℕ) (ns : List Node) (out : List ℕ) (n : ℕ) → t < types → Turned as_node as_bytes g t ns out n → (unpack_of g types t (take n out) (length ns) ≡ Ok (length ns)) × (nodes_of g 0 (take n out) ≡ ns)
  unpacks-back types t ns out n known w =
      let front = sym w.now_is in
      let long = ap length w.was in (
        ap (λ l. unpack_of g types t l (length ns)) front ∙ unpack-tree types t (length ns) w.shape w.typed known (omega arith) ∙ ap Ok long,
        ap (nodes_of g 0) front ∙ nodes-of-tree w.shape t w.typed ∙ w.was,
      )

  module _ (few : (b : ℕ) (c : Constructor) → slice_get g b ≡ Some c → c.fields.integers ≤ 4) where
    mutual
      tree-bytes : (x : Tree) (t : ℕ) (ns : List Node) → OfType g t x → bytes_of g (spelled as_node x ++ ns) ≡ spelled as_bytes x ++ bytes_of g ns
      tree-bytes (tree k zs ts) t ns w =
          let c = w.0 in
          let h = w.1 in
          let small = few k c h.named in
          let long = h.long in
          let count : integers_of g k ≡ length zs = integers-of g k c h.named ∙ sym h.long in
          let kept : take (integers_of g k) (padded 4 zs) ≡ zs = ap (λ m. take m (padded 4 zs)) count ∙ take-padded 4 zs (omega arith) in
          (λ i. as_bytes k (kept i) ++ forest-bytes ts (subtrees c) ns w.2 i)
          ∙ ap (λ l. k ∷ l) (sym (append_assoc (eights zs) (spelled_all as_bytes ts) (bytes_of g ns)))

      forest-bytes : (f : Forest) (ks : List ℕ) (ns : List Node) → OfTypes g ks f → bytes_of g (spelled_all as_node f ++ ns) ≡ spelled_all as_bytes f ++ bytes_of g ns
      forest-bytes none ks ns w = refl
      forest-bytes (more x f) ks ns w =
          ap (bytes_of g) (append_assoc (spelled as_node x) (spelled_all as_node f) ns)
          ∙ tree-bytes x w.0 (spelled_all as_node f ++ ns) w.3
          ∙ ap (λ l. spelled as_bytes x ++ l) (forest-bytes f w.1 ns w.4)
          ∙ sym (append_assoc (spelled as_bytes x) (spelled_all as_bytes f) (bytes_of g ns))

    pub bytes-of-tree : (x : Tree) (t : ℕ) → OfType g t x → bytes_of g (spelled as_node x) ≡ spelled as_bytes x
    bytes-of-tree x t w = ap (bytes_of g) (sym (append-nil (spelled as_node x))) ∙ tree-bytes x t [] w ∙ append-nil (spelled as_bytes x)

    pub pack-tree : (types t room : ℕ) (x : Tree) → OfType g t x → t < types → length (spelled as_bytes x) ≤ room → pack_of g types t (spelled as_node x) room ≡ Ok (length (spelled as_bytes x))
    pack-tree types t room x w known h =
        ap (λ v. cond v (fitted (read_nodes g (t ∷ []) (spelled as_node x) 0) (length (bytes_of g (spelled as_node x))) room) (Err (refusal reason.Kind 0))) (lt-ltb t types known)
        ∙ (λ i. fitted (nodes-accepted g x t w i) (length (bytes-of-tree x t w i)) room)
        ∙ ap (λ v. cond v (Ok (length (spelled as_bytes x))) (Err (refusal reason.ShortBuffer 0))) (le-leb (length (spelled as_bytes x)) room h)

    pub pack-accepts : (types t : ℕ) (ns : List Node) (room : ℕ) (r : Result ℕ Fault) → r ≡ pack_of g types t ns room → Accepts as_node as_bytes g types t ns room r
    pack-accepts types t ns room r e x w known same fits = e ∙ ap (λ l. pack_of g types t l room) (sym same) ∙ pack-tree types t room x w known fits

    -- what unpack wrote packs to the bytes it was given
    pub packs-back : (types t : ℕ) (bs : List ℕ) (out : List Node) (n : ℕ) → t < types → Turned as_bytes as_node g t bs out n → (pack_of g types t (take n out) (length bs) ≡ Ok (length bs)) × (bytes_of g (take n out) ≡ bs)
    packs-back types t bs out n known w =
        let front = sym w.now_is in
        let long = ap length w.was in (
          ap (λ l. pack_of g types t l (length bs)) front ∙ pack-tree types t (length bs) w.shape w.typed known (omega arith) ∙ ap Ok long,
          ap (bytes_of g) front ∙ bytes-of-tree w.shape t w.typed ∙ w.was,
        )
