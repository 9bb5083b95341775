-- Nodes as a spelling of trees.
use Rattle.std.proofs.Common.{◌≡◌, ℕ, zero, suc, ◌+◌, ◌<◌, ◌≤◌, Bool, true, false, cond, List, [], ◌∷◌, ◌++◌, length, take, ℤ, Some, None, Ok, Err, Option, sym, refl, ap, ◌∙◌, subst, arith}
use Rattle.std.specs.List.{slice_get}
use Rattle.std.proofs.lemmas.List.{length-take-le}
use Rattle.packed.specs.declared.constructor.Constructor.{Constructor}
use Rattle.packed.specs.declared.node.Node.{Node}
use Rattle.packed.specs.Forms.{either, subtrees, form_at}
use Rattle.packed.specs.Reading.{blank_behind, next_node, none_due, read_nodes}
use Rattle.packed.specs.Trees.{Tree, Forest, Fit, Whole, OfType, OfTypes, spelled, spelled_all, padded, node_of, as_node}
use Rattle.packed.specs.Trees.Tree.{tree}
use Rattle.packed.specs.Trees.Forest.{none, more}
use Rattle.packed.specs.Laws.{Spells, Finite, Leaves}
use Rattle.packed.proofs.Blanks.{padded-take, blank-padded}
use Rattle.packed.proofs.Fair.{form_of, form-named}
use Rattle.packed.proofs.Scans.{node-read}
use Rattle.packed.proofs.Words.{read-after, read-moved, never}
use Rattle.packed.proofs.Growth.{Onward, Begun, tree-accepted, tree-ended, forest-accepted, tree-grown}
use Rattle.packed.proofs.Least.{Known, known-append, forest-of, alive-after, leaves}

abbrev pub Wholes : List Node → Type 0
Wholes [] = Unit {0}
Wholes (n ∷ ns) = Whole n × Wholes ns

pub wholes-append : (ms ns : List Node) → Wholes ms → Wholes ns → Wholes (ms ++ ns)
wholes-append [] ns p q = q
wholes-append (m ∷ ms) ns p q = (p.0, wholes-append ms ns p.1 q)

-- nodes, by what is known of each place
pub wholes-from : (ns : List Node) (n : ℕ) → ((i : ℕ) → i < n → (x : Node) → slice_get ns i ≡ Some x → Whole x) → Wholes (take n ns)
wholes-from [] zero f = tt
wholes-from [] (suc n) f = tt
wholes-from (m ∷ ns) zero f = tt
wholes-from (m ∷ ns) (suc n) f = (f 0 (omega arith) m refl, wholes-from ns n (λ i h x e. f (suc i) (omega arith) x e))

fit-take : (k : ℕ) (zs : List ℤ) → Fit zs → Fit (take k zs)
fit-take zero zs f = tt
fit-take (suc k) [] f = tt
fit-take (suc k) (z ∷ zs) f = (f.0, fit-take k zs f.1)

fit-padded : (n : ℕ) (zs : List ℤ) → Fit zs → Fit (padded n zs)
fit-padded zero zs f = tt
fit-padded (suc n) [] f = (record { sfits = omega arith }, fit-padded n [] f)
fit-padded (suc n) (z ∷ zs) f = (f.0, fit-padded n zs f.1)

pub length-padded : (n : ℕ) (zs : List ℤ) → length (padded n zs) ≡ n
length-padded zero zs = refl
length-padded (suc n) [] = ap suc (length-padded n [])
length-padded (suc n) (z ∷ zs) = ap suc (length-padded n zs)

module _ (g : List Constructor) where
  pub nodes-onward : Onward g (next_node g) none_due (λ due. due) as_node
  nodes-onward t due k zs c h word p =
      let blank : blank_behind c.fields.integers (node_of k zs) ≡ true = ap (λ n. blank_behind n (node_of k zs)) (sym h.long) ∙ blank-padded 4 zs in
      node-read g t due (node_of k zs) word p (Some c) (form_of g t k c h.named h.typed)
      ∙ ap (λ v. cond v (read_nodes g (subtrees c ++ due) word (p + 1)) (Err p)) blank

  pub nodes-shut : (word : List Node) (p : ℕ) → read_nodes g [] word p ≡ Ok tt → word ≡ []
  nodes-shut [] p e = refl
  nodes-shut (n ∷ ns) p e = absurd (let z : ◌≡◌ {A = ℕ} 0 1 = cc in omega arith)

  pub nodes-ended : (x : Tree) (t : ℕ) → OfType g t x → (a : Node) (rest : List Node) → read_nodes g (t ∷ []) (spelled as_node x ++ a ∷ rest) 0 ≡ Err (length (spelled as_node x))
  nodes-ended x t w a rest = tree-ended g (next_node g) none_due (λ due. due) as_node nodes-onward x t (λ b more p. refl) w a rest

  pub nodes-accepted : (x : Tree) (t : ℕ) → OfType g t x → read_nodes g (t ∷ []) (spelled as_node x) 0 ≡ Ok tt
  nodes-accepted x t w = tree-accepted g (next_node g) none_due (λ due. due) as_node nodes-onward x t refl w

  abbrev Opens : ℕ → List ℕ → List Node → ℕ → Type 0
  Opens t due word p = Begun g (next_node g) none_due (λ due. due) as_node Wholes t due word p

  module _ (few : (b : ℕ) (c : Constructor) → slice_get g b ≡ Some c → c.fields.integers ≤ 4) where
    pub nodes-begun : (t : ℕ) (due : List ℕ) (word : List Node) (p : ℕ) → Wholes word → read_nodes g (t ∷ due) word p ≡ Ok tt → Opens t due word p
    nodes-begun t due [] p q e = absurd (let z : ◌≡◌ {A = ℕ} 0 1 = cc in omega arith)
    nodes-begun t due (n ∷ ns) p q e = step (form_at g t n.constructor) refl
      where
        step : (o : Option Constructor) → form_at g t n.constructor ≡ o → Opens t due (n ∷ ns) p
        step None k = never (read_nodes g (t ∷ due) (n ∷ ns) p) tt e (node-read g t due n ns p None k)
        step (Some c) k = tested (blank_behind c.fields.integers n) refl
          where
            on : cond (blank_behind c.fields.integers n) (read_nodes g (subtrees c ++ due) ns (p + 1)) (Err p) ≡ Ok tt
            on = sym (node-read g t due n ns p (Some c) k) ∙ e

            tested : (v : Bool) → blank_behind c.fields.integers n ≡ v → Opens t due (n ∷ ns) p
            tested false z = never (cond (blank_behind c.fields.integers n) (read_nodes g (subtrees c ++ due) ns (p + 1)) (Err p)) tt on (ap (λ v. cond v (read_nodes g (subtrees c ++ due) ns (p + 1)) (Err p)) z)
            tested true z =
                let m = c.fields.integers in
                let named = form-named g t n.constructor c k in
                let four = q.0.four in
                let small = few n.constructor c named.0 in
                let full = padded-take 4 m n.integers four z in
                record {
                  number = n.constructor;
                  integers = take m n.integers;
                  form = c;
                  heads = record { named = named.0; typed = named.1; long = length-take-le m n.integers (omega arith); fit = fit-take m n.integers q.0.fit };
                  rest = ns;
                  same = λ i. record { constructor = n.constructor; integers = sym full i } ∷ ns;
                  fewer = omega arith;
                  good = q.1;
                  goes = sym (ap (λ v. cond v (read_nodes g (subtrees c ++ due) ns (p + 1)) (Err p)) z) ∙ on;
                }

    pub nodes-grown : (t : ℕ) (word : List Node) → Wholes word → read_nodes g (t ∷ []) word 0 ≡ Ok tt → Spells as_node g t word
    nodes-grown t word q e = tree-grown g (next_node g) none_due (λ due. due) as_node Wholes nodes-begun nodes-shut t word 0 q e

    mutual
      tree-wholes : (x : Tree) (t : ℕ) → OfType g t x → Wholes (spelled as_node x)
      tree-wholes (tree k zs ts) t w = (record { four = length-padded 4 zs; fit = fit-padded 4 zs w.1.fit }, forest-wholes ts (subtrees w.0) w.2)

      forest-wholes : (f : Forest) (ks : List ℕ) → OfTypes g ks f → Wholes (spelled_all as_node f)
      forest-wholes none ks w = tt
      forest-wholes (more x f) ks w = wholes-append (spelled as_node x) (spelled_all as_node f) (tree-wholes x w.0 w.3) (forest-wholes f w.1 w.4)

    module _ (types : ℕ) (fair : (b : ℕ) (c : Constructor) → slice_get g b ≡ Some c → Known types (subtrees c)) where
      alive-next : (s : List ℕ) (n : Node) (s' : List ℕ) → next_node g s n ≡ Some s' → Known types s → Known types s'
      alive-next [] n s' e h = absurd (let z : ◌≡◌ {A = ℕ} 0 1 = cc in omega arith)
      alive-next (t ∷ due) n s' e h = step (form_at g t n.constructor) refl
        where
          step : (o : Option Constructor) → form_at g t n.constructor ≡ o → Known types s'
          step None k = absurd (let f = ap (λ o. either o None (λ c. cond (blank_behind c.fields.integers n) (Some (subtrees c ++ due)) None)) k in let z : ◌≡◌ {A = ℕ} 0 1 = cc in omega arith)
          step (Some c) k = tested (blank_behind c.fields.integers n) refl
            where
              f : next_node g (t ∷ due) n ≡ cond (blank_behind c.fields.integers n) (Some (subtrees c ++ due)) None
              f = ap (λ o. either o None (λ c. cond (blank_behind c.fields.integers n) (Some (subtrees c ++ due)) None)) k

              tested : (v : Bool) → blank_behind c.fields.integers n ≡ v → Known types s'
              tested false z = absurd (let y = f ∙ ap (λ v. cond v (Some (subtrees c ++ due)) None) z in let w : ◌≡◌ {A = ℕ} 0 1 = cc in omega arith)
              tested true z =
                  let y = f ∙ ap (λ v. cond v (Some (subtrees c ++ due)) None) z in
                  let same : subtrees c ++ due ≡ s' = cc in
                  subst (Known types) same (known-append types (subtrees c) due (fair n.constructor c (form-named g t n.constructor c k).0) h.1)

      finish : Finite g types → (s : List ℕ) → Known types s → (v : List Node) × Wholes v × (read_nodes g s v 0 ≡ Ok tt)
      finish finite due h =
          let f = forest-of g types finite due h in
          (spelled_all as_node f.0, forest-wholes f.0 due f.1, forest-accepted g (next_node g) none_due (λ due. due) as_node nodes-onward f.0 due 0 refl f.1)

      pub nodes-leave : (t : ℕ) (word : List Node) (p : ℕ) → t < types → Wholes (take p word) → read_nodes g (t ∷ []) word 0 ≡ Err p → Leaves as_node g types t word p
      nodes-leave t word p known q e =
          leaves (next_node g) none_due (t ∷ []) as_node g types t (λ x w. nodes-accepted x t w) (λ x w. nodes-ended x t w) word p e
          (λ finite s there.
          let alive = alive-after (next_node g) none_due (t ∷ []) as_node g types t (λ x w. nodes-accepted x t w) (λ x w. nodes-ended x t w) (Known types) alive-next (t ∷ []) (take p word) s there (known, tt) in
          let f = finish finite s alive in
          let on = read-after (next_node g) none_due (t ∷ []) s (take p word) f.0 0 there ∙ read-moved (next_node g) none_due s f.0 0 (0 + length (take p word)) f.2 in
          (f.0, nodes-grown t (take p word ++ f.0) (wholes-append (take p word) f.0 q f.1) on))
