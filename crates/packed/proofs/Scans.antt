-- The reading of a head: a symbol that cannot stand, bytes that end too soon, or what is due behind it.
use Rattle.std.proofs.Common.{◌≡◌, ℕ, zero, suc, ◌+◌, ◌*◌, ◌<◌, ◌≤◌, Bool, true, false, cond, List, [], ◌∷◌, ◌++◌, length, get_or, drop, Some, None, Err, Option, Result, sym, refl, ap, ◌∙◌, add-zero, arith, length-drop}
use Rattle.std.proofs.lemmas.List.{drop_more, drop-drop}
use Rattle.packed.specs.declared.constructor.Constructor.{Constructor}
use Rattle.packed.specs.declared.node.Node.{Node}
use Rattle.packed.specs.Forms.{either, subtrees, form_at}
use Rattle.packed.specs.Reading.{left, blank_behind, read_nodes, read_bytes}

-- bytes of integers are passed, or the bytes end among them
pub skip_all : (g : List Constructor) (skip : ℕ) (due bs : List ℕ) (p : ℕ) → skip ≤ length bs → read_bytes g (left skip due) bs p ≡ read_bytes g (left 0 due) (drop skip bs) (p + skip)
skip_all g zero due bs p h = ap (read_bytes g (left 0 due) bs) (sym (add-zero p))
skip_all g (suc skip) due [] p h = absurd (omega arith)
skip_all g (suc skip) due (b ∷ bs) p h = skip_all g skip due bs (p + 1) (omega arith) ∙ ap (read_bytes g (left 0 due) (drop skip bs)) (omega arith)

pub skip-short : (g : List Constructor) (skip : ℕ) (due bs : List ℕ) (p : ℕ) → length bs < skip → read_bytes g (left skip due) bs p ≡ Err (p + length bs)
skip-short g zero due bs p h = absurd (omega arith)
skip-short g (suc skip) due [] p h = ap Err (omega arith)
skip-short g (suc skip) due (b ∷ bs) p h = skip-short g skip due bs (p + 1) (omega arith) ∙ ap Err (omega arith)

module _ (g : List Constructor) (t : ℕ) (due : List ℕ) where
  abbrev pub on_tag : List ℕ → ℕ → Option Constructor → Result (Unit {0}) ℕ
  on_tag bs p None = Err p
  on_tag bs p (Some c) = read_bytes g (left (8 * c.fields.integers) (subtrees c ++ due)) bs (p + 1)

  pub tag_read : (b : ℕ) (bs : List ℕ) (p : ℕ) (o : Option Constructor) → form_at g t b ≡ o → read_bytes g (left 0 (t ∷ due)) (b ∷ bs) p ≡ on_tag bs p o
  tag_read b bs p None e = ap (λ o. either (either o None (λ c. Some (left (8 * c.fields.integers) (subtrees c ++ due)))) (Err p) (λ s. read_bytes g s bs (p + 1))) e
  tag_read b bs p (Some c) e = ap (λ o. either (either o None (λ c. Some (left (8 * c.fields.integers) (subtrees c ++ due)))) (Err p) (λ s. read_bytes g s bs (p + 1))) e

  module _ (bs : List ℕ) (at : ℕ) where
    tag_at : (o : Option Constructor) → at < length bs → form_at g t (get_or bs at 0) ≡ o → read_bytes g (left 0 (t ∷ due)) (drop at bs) at ≡ on_tag (drop (at + 1) bs) at o
    tag_at o h e = ap (λ l. read_bytes g (left 0 (t ∷ due)) l at) (drop_more bs at 0 h) ∙ tag_read (get_or bs at 0) (drop (at + 1) bs) at o e

    pub bytes_cut : (c : Constructor) → at < length bs → form_at g t (get_or bs at 0) ≡ Some c → length bs < at + (1 + 8 * c.fields.integers) → read_bytes g (left 0 (t ∷ due)) (drop at bs) at ≡ Err (length bs)
    bytes_cut c h e short =
        let l = length-drop (at + 1) bs in
        tag_at (Some c) h e ∙ skip-short g (8 * c.fields.integers) (subtrees c ++ due) (drop (at + 1) bs) (at + 1) (omega arith) ∙ ap Err (omega arith)

    pub bytes-head : (c : Constructor) → at < length bs → form_at g t (get_or bs at 0) ≡ Some c → at + (1 + 8 * c.fields.integers) ≤ length bs → read_bytes g (left 0 (t ∷ due)) (drop at bs) at ≡ read_bytes g (left 0 (subtrees c ++ due)) (drop (at + (1 + 8 * c.fields.integers)) bs) (at + (1 + 8 * c.fields.integers))
    bytes-head c h e long =
        let n = 8 * c.fields.integers in
        let l = length-drop (at + 1) bs in
        let same : (at + 1) + n ≡ at + (1 + n) = omega arith in
        tag_at (Some c) h e
        ∙ skip_all g n (subtrees c ++ due) (drop (at + 1) bs) (at + 1) (omega arith)
        ∙ ap (λ l. read_bytes g (left 0 (subtrees c ++ due)) l ((at + 1) + n)) (drop-drop n (at + 1) bs)
        ∙ ap (λ k. read_bytes g (left 0 (subtrees c ++ due)) (drop k bs) k) same

  -- the same for nodes
  abbrev pub on_form : Node → List Node → ℕ → Option Constructor → Result (Unit {0}) ℕ
  on_form n ns p None = Err p
  on_form n ns p (Some c) = cond (blank_behind c.fields.integers n) (read_nodes g (subtrees c ++ due) ns (p + 1)) (Err p)

  turn : (n : Node) (ns : List Node) (p : ℕ) (c : Constructor) (v : Bool) → either (cond v (Some (subtrees c ++ due)) None) (Err p) (λ s. read_nodes g s ns (p + 1)) ≡ cond v (read_nodes g (subtrees c ++ due) ns (p + 1)) (Err p)
  turn n ns p c true = refl
  turn n ns p c false = refl

  pub node-read : (n : Node) (ns : List Node) (p : ℕ) (o : Option Constructor) → form_at g t n.constructor ≡ o → read_nodes g (t ∷ due) (n ∷ ns) p ≡ on_form n ns p o
  node-read n ns p None e = ap (λ o. either (either o None (λ c. cond (blank_behind c.fields.integers n) (Some (subtrees c ++ due)) None)) (Err p) (λ s. read_nodes g s ns (p + 1))) e
  node-read n ns p (Some c) e =
      ap (λ o. either (either o None (λ c. cond (blank_behind c.fields.integers n) (Some (subtrees c ++ due)) None)) (Err p) (λ s. read_nodes g s ns (p + 1))) e
      ∙ turn n ns p c (blank_behind c.fields.integers n)
