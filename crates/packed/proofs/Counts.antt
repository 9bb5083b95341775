-- The nodes of accepted bytes, one head at a time.
use Rattle.std.proofs.Common.{◌≡◌, ℕ, zero, suc, ◌+◌, ◌*◌, ◌<◌, ◌≤◌, List, [], ◌∷◌, ◌++◌, length, take, drop, set, Some, None, Ok, Option, sym, refl, ap, ◌∙◌, ⊎_elim, add-one, arith, length-drop}
use Rattle.std.specs.List.{slice_get}
use Rattle.std.proofs.lemmas.List.{append_assoc, set_split}
use Rattle.std.proofs.lemmas.Bool.{cases_lt}
use Rattle.packed.specs.declared.constructor.Constructor.{Constructor}
use Rattle.packed.specs.declared.node.Node.{Node}
use Rattle.packed.specs.Buffers.{Front}
use Rattle.packed.specs.Forms.{subtrees, form_at}
use Rattle.packed.specs.Reading.{left, next_byte, nothing_left, read_bytes, Readable}
use Rattle.packed.specs.Trees.{node_of}
use Rattle.packed.specs.Packing.{integers_of, integers_in, nodes_of}
use Rattle.packed.proofs.Fair.{form-named}
use Rattle.packed.proofs.Scans.{tag_read, skip_all, skip-short}
use Rattle.packed.proofs.Words.{never, read-moved}
use Rattle.packed.proofs.Fronts.{front-more}
use Rattle.packed.proofs.Round.{nodes-on, integers-of}

nodes-at : (g : List Constructor) (skip : ℕ) (bs : List ℕ) → nodes_of g skip bs ≡ nodes_of g 0 (drop skip bs)
nodes-at g zero bs = refl
nodes-at g (suc skip) [] = refl
nodes-at g (suc skip) (b ∷ bs) = nodes-at g skip bs

module _ (g : List Constructor) (b : ℕ) (bs : List ℕ) where
  -- a reading that comes to the end comes past a tag b and the integers behind it
  pub record Past : Type 0 where
    pub fits : 8 * integers_of g b ≤ length bs
    pub readable : Readable g (drop (8 * integers_of g b) bs)
    pub first : nodes_of g 0 (b ∷ bs) ≡ node_of b (integers_in (integers_of g b) bs) ∷ nodes_of g 0 (drop (8 * integers_of g b) bs)

  pub passes : Readable g (b ∷ bs) → Past
  passes ([], e) = never (read_bytes g (left 0 []) (b ∷ bs) 0) tt e refl
  passes (t ∷ due, e) = step (form_at g t b) refl
    where
      step : (o : Option Constructor) → form_at g t b ≡ o → Past
      step None k = never (read_bytes g (left 0 (t ∷ due)) (b ∷ bs) 0) tt e (tag_read g t due b bs 0 None k)
      step (Some c) k = ⊎_elim cut long (cases_lt (length bs) (8 * c.fields.integers))
        where
          named : slice_get g b ≡ Some c
          named = (form-named g t b c k).0

          count : c.fields.integers ≡ integers_of g b
          count = sym (integers-of g b c named)

          on : read_bytes g (left (8 * c.fields.integers) (subtrees c ++ due)) bs 1 ≡ Ok tt
          on = sym (tag_read g t due b bs 0 (Some c) k) ∙ e

          cut : length bs < 8 * c.fields.integers → Past
          cut short = never (read_bytes g (left (8 * c.fields.integers) (subtrees c ++ due)) bs 1) tt on (skip-short g (8 * c.fields.integers) (subtrees c ++ due) bs 1 short)

          long : 8 * c.fields.integers ≤ length bs → Past
          long fits =
              let m = 8 * c.fields.integers in
              let behind = read-moved (next_byte g) nothing_left (left 0 (subtrees c ++ due)) (drop m bs) (1 + m) 0 (sym (skip_all g m (subtrees c ++ due) bs 1 fits) ∙ on) in
              record {
                fits = let q = count in omega arith;
                readable = (subtrees c ++ due, ap (λ n. read_bytes g (left 0 (subtrees c ++ due)) (drop (8 * n) bs) 0) (sym count) ∙ behind);
                first =
                    nodes-on g b bs c named
                    ∙ ap (λ l. node_of b (integers_in c.fields.integers bs) ∷ l) (nodes-at g m bs)
                    ∙ ap (λ n. node_of b (integers_in n bs) ∷ nodes_of g 0 (drop (8 * n) bs)) count;
              }

-- `count` nodes stand before the rest
pub record Counted (g : List Constructor) (bs rest : List ℕ) (count : ℕ) : Type 0 where
  pub readable : Readable g rest
  pub sum : count + length (nodes_of g 0 rest) ≡ length (nodes_of g 0 bs)
  pub few : count + length rest ≤ length bs

module _ {g : List Constructor} {bs : List ℕ} {count b : ℕ} {behind : List ℕ} (w : Counted g bs (b ∷ behind) count) where
  abbrev pub here : Past g b behind
  here = passes g b behind w.readable

  pub counted-more : Counted g bs (drop (8 * integers_of g b) behind) (count + 1)
  counted-more =
      let l = ap length here.first in
      let s = w.sum in
      let f = w.few in
      record { readable = here.readable; sum = omega arith; few = let d = length-drop (8 * integers_of g b) behind in omega arith }

-- and those nodes are written at the front of what `old` held
pub record Filled (g : List Constructor) (bs : List ℕ) (old : List Node) (rest : List ℕ) (count : ℕ) (out : List Node) : Type 0 where
  pub counted : Counted g bs rest count
  pub word : List Node
  pub front : Front word old count out
  pub joined : word ++ nodes_of g 0 rest ≡ nodes_of g 0 bs

pub filled_more : {g : List Constructor} {bs : List ℕ} {old : List Node} {count b : ℕ} {behind : List ℕ} {out : List Node} → Filled g bs old (b ∷ behind) count out → count < length out → (n : Node) → n ≡ node_of b (integers_in (integers_of g b) behind) → Filled g bs old (drop (8 * integers_of g b) behind) (count + 1) (set out count n)
filled_more {g} {bs} {old} {count} {b} {behind} {out} w room n e =
    let p = passes g b behind w.counted.readable in
    let rest = nodes_of g 0 (drop (8 * integers_of g b) behind) in
    record {
      counted = counted-more w.counted;
      word = w.word ++ n ∷ [];
      front = front-more w.word old count out (n ∷ []) (set out count n) 1 refl (set_split out count n room ∙ ap (λ k. take count out ++ n ∷ drop k out) (sym (add-one count))) w.front;
      joined = append_assoc w.word (n ∷ []) rest ∙ ap (λ m. w.word ++ (m ∷ rest)) e ∙ ap (λ l. w.word ++ l) (sym p.first) ∙ w.joined;
    }
