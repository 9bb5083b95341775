-- Over any way to spell heads: the spelling of a tree is read to its end, and what is read to its end spells a tree.
use Rattle.std.proofs.Common.{◌≡◌, ℕ, zero, suc, ◌+◌, ◌<◌, ◌≤◌, Bool, List, [], ◌∷◌, ◌++◌, length, ℤ, Ok, Err, Option, Result, sym, refl, ap, ◌∙◌, subst, arith}
use Rattle.std.proofs.lemmas.List.{append_assoc, append-nil, length-append}
use Rattle.packed.specs.declared.constructor.Constructor.{Constructor}
use Rattle.packed.specs.Forms.{subtrees}
use Rattle.packed.specs.Reading.{reads}
use Rattle.packed.specs.Trees.{Tree, Forest, Heads, OfType, OfTypes, spelled, spelled_all}
use Rattle.packed.specs.Trees.Tree.{tree}
use Rattle.packed.specs.Trees.Forest.{none, more}

-- trees of the types ks, then trees of the types due
pub record Split (g : List Constructor) {A : Type 0} (head : ℕ → List ℤ → List A) (ks due : List ℕ) (f : Forest) : Type 0 where
  pub front : Forest
  pub back : Forest
  pub front-typed : OfTypes g ks front
  pub back_typed : OfTypes g due back
  pub same : spelled_all head f ≡ spelled_all head front ++ spelled_all head back

split : (g : List Constructor) {A : Type 0} (head : ℕ → List ℤ → List A) (ks due : List ℕ) (f : Forest) → OfTypes g (ks ++ due) f → Split g head ks due f
split g head [] due f w = record { front = none; back = f; front-typed = refl; back_typed = w; same = refl }
split g head (k ∷ ks) due none w = absurd (let z : ◌≡◌ {A = ℕ} 0 1 = cc in omega arith)
split g head (k ∷ ks) due (more x f) w =
    let first : w.0 ≡ k = let e = w.2 in cc in
    let rest : w.1 ≡ ks ++ due = let e = w.2 in cc in
    let s = split g head ks due f (subst (λ l. OfTypes g l f) rest w.4) in
    record {
      front = more x s.front;
      back = s.back;
      front-typed = (k, ks, refl, subst (λ t. OfType g t x) first w.3, s.front-typed);
      back_typed = s.back_typed;
      same = ap (λ l. spelled head x ++ l) s.same ∙ sym (append_assoc (spelled head x) (spelled_all head s.front) (spelled_all head s.back));
    }

module _ (g : List Constructor) {S A : Type 0} (next : S → A → Option S) (done : S → Bool) (start : List ℕ → S) (head : ℕ → List ℤ → List A) where
  abbrev Read : List ℕ → List A → ℕ → Result (Unit {0}) ℕ
  Read due word p = reads next done (start due) word p

  -- a head is read where its type is due, and its subtrees are due behind it
  abbrev pub Onward : Type 0
  Onward = (t : ℕ) (due : List ℕ) (k : ℕ) (zs : List ℤ) (c : Constructor) → Heads g t k zs c → (word : List A) (p : ℕ) → reads next done (start (t ∷ due)) (head k zs ++ word) p ≡ reads next done (start (subtrees c ++ due)) word (p + length (head k zs))

  module _ (onward : Onward) where
    mutual
      pub tree-read : (x : Tree) (t : ℕ) (due : List ℕ) (word : List A) (p : ℕ) → OfType g t x → reads next done (start (t ∷ due)) (spelled head x ++ word) p ≡ reads next done (start due) word (p + length (spelled head x))
      tree-read (tree k zs ts) t due word p w =
          let long = length-append (head k zs) (spelled_all head ts) in
          ap (λ l. Read (t ∷ due) l p) (append_assoc (head k zs) (spelled_all head ts) word)
          ∙ onward t due k zs w.0 w.1 (spelled_all head ts ++ word) p
          ∙ forest-read ts (subtrees w.0) due word (p + length (head k zs)) w.2
          ∙ ap (Read due word) (omega arith)

      forest-read : (f : Forest) (ks due : List ℕ) (word : List A) (p : ℕ) → OfTypes g ks f → reads next done (start (ks ++ due)) (spelled_all head f ++ word) p ≡ reads next done (start due) word (p + length (spelled_all head f))
      forest-read none ks due word p w = ap (λ l. Read (l ++ due) word p) w ∙ ap (Read due word) (omega arith)
      forest-read (more x f) ks due word p w =
          let long = length-append (spelled head x) (spelled_all head f) in
          ap (λ l. Read (l ++ due) ((spelled head x ++ spelled_all head f) ++ word) p) w.2
          ∙ ap (λ l. Read (w.0 ∷ (w.1 ++ due)) l p) (append_assoc (spelled head x) (spelled_all head f) word)
          ∙ tree-read x w.0 (w.1 ++ due) (spelled_all head f ++ word) p w.3
          ∙ forest-read f w.1 due word (p + length (spelled head x)) w.4
          ∙ ap (Read due word) (omega arith)

    -- a tree of the type is accepted, whole
    pub tree-accepted : (x : Tree) (t : ℕ) → reads next done (start []) [] (0 + length (spelled head x)) ≡ Ok tt → OfType g t x → reads next done (start (t ∷ [])) (spelled head x) 0 ≡ Ok tt
    tree-accepted x t ends w = ap (λ l. Read (t ∷ []) l 0) (sym (append-nil (spelled head x))) ∙ tree-read x t [] [] 0 w ∙ ends

    -- and nothing may follow it
    pub tree-ended : (x : Tree) (t : ℕ) → ((a : A) (rest : List A) (p : ℕ) → reads next done (start []) (a ∷ rest) p ≡ Err p) → OfType g t x → (a : A) (rest : List A) → reads next done (start (t ∷ [])) (spelled head x ++ a ∷ rest) 0 ≡ Err (length (spelled head x))
    tree-ended x t stops w a rest = tree-read x t [] (a ∷ rest) 0 w ∙ stops a rest (0 + length (spelled head x)) ∙ ap Err (omega arith)

    pub forest-accepted : (f : Forest) (ks : List ℕ) (p : ℕ) → reads next done (start []) [] (p + length (spelled_all head f)) ≡ Ok tt → OfTypes g ks f → reads next done (start ks) (spelled_all head f) p ≡ Ok tt
    forest-accepted f ks p ends w =
        ap (λ l. Read l (spelled_all head f) p) (sym (append-nil ks)) ∙ ap (λ l. Read (ks ++ []) l p) (sym (append-nil (spelled_all head f))) ∙ forest-read f ks [] [] p w ∙ ends

  -- what is accepted where a type is due begins with a head of it
  pub record Begun (Good : List A → Type 0) (t : ℕ) (due : List ℕ) (word : List A) (p : ℕ) : Type 0 where
    pub number : ℕ
    pub integers : List ℤ
    pub form : Constructor
    pub heads : Heads g t number integers form
    pub rest : List A
    pub same : word ≡ head number integers ++ rest
    pub fewer : length rest < length word
    pub good : Good rest
    pub goes : reads next done (start (subtrees form ++ due)) rest (p + length (head number integers)) ≡ Ok tt

  module _ (Good : List A → Type 0) (begun : (t : ℕ) (due : List ℕ) (word : List A) (p : ℕ) → Good word → reads next done (start (t ∷ due)) word p ≡ Ok tt → Begun Good t due word p) (shut : (word : List A) (p : ℕ) → reads next done (start []) word p ≡ Ok tt → word ≡ []) where
    pub grown : (fuel : ℕ) (due : List ℕ) (word : List A) (p : ℕ) → length word ≤ fuel → Good word → reads next done (start due) word p ≡ Ok tt → (f : Forest) × OfTypes g due f × (spelled_all head f ≡ word)
    grown fuel [] word p h q e = (none, refl, sym (shut word p e))
    grown zero (t ∷ due) word p h q e = absurd (let b = (begun t due word p q e).fewer in omega arith)
    grown (suc fuel) (t ∷ due) word p h q e =
        let b = begun t due word p q e in
        let less = b.fewer in
        let r = grown fuel (subtrees b.form ++ due) b.rest (p + length (head b.number b.integers)) (omega arith) b.good b.goes in
        let s = split g head (subtrees b.form) due r.0 r.1 in
        let x = tree b.number b.integers s.front in
        (more x s.back, (t, due, refl, (b.form, b.heads, s.front-typed), s.back_typed), append_assoc (head b.number b.integers) (spelled_all head s.front) (spelled_all head s.back) ∙ ap (λ l. head b.number b.integers ++ l) (sym s.same ∙ r.2) ∙ sym b.same)

    one : (t : ℕ) (f : Forest) → OfTypes g (t ∷ []) f → (x : Tree) × OfType g t x × (spelled head x ≡ spelled_all head f)
    one t none w = absurd (let z : ◌≡◌ {A = ℕ} 0 1 = cc in omega arith)
    one t (more x none) w = (x, subst (λ k. OfType g k x) (let e = w.2 in let same : w.0 ≡ t = cc in same) w.3, sym (append-nil (spelled head x)))
    one t (more x (more y f)) w = absurd (let a = w.2 in let b = w.4.2 in let z : ◌≡◌ {A = ℕ} 0 1 = cc in omega arith)

    pub tree-grown : (t : ℕ) (word : List A) (p : ℕ) → Good word → reads next done (start (t ∷ [])) word p ≡ Ok tt → (x : Tree) × OfType g t x × (spelled head x ≡ word)
    tree-grown t word p q e =
        let r = grown (length word) (t ∷ []) word p (omega arith) q e in
        let x = one t r.0 r.1 in
        (x.0, x.1, x.2 ∙ r.2)
