-- Over any way to spell heads: where a reading breaks off, the word leaves the trees of its type.
use Rattle.std.proofs.Common.{◌≡◌, ℕ, ◌+◌, ◌<◌, ◌≤◌, Bool, ◌⊎◌, List, [], ◌∷◌, ◌++◌, length, take, drop, Some, None, Ok, Err, Option, sym, refl, ap, ◌∙◌, subst, inl, inr, ⊎_elim, arith}
use Rattle.std.proofs.lemmas.List.{append_assoc, take-append-drop, take-take, take_all, length-drop, length-take-le}
use Rattle.packed.specs.declared.constructor.Constructor.{Constructor}
use Rattle.packed.specs.Forms.{either}
use Rattle.packed.specs.Reading.{reads}
use Rattle.packed.specs.Trees.{Tree, Forest, OfType, OfTypes, spelled}
use Rattle.packed.specs.Trees.Forest.{none, more}
use Rattle.packed.specs.Laws.{Spelling, Spells, Begins, Finite, Leaves}
use Rattle.packed.proofs.Words.{after, breaks, never}

-- types that are known
abbrev pub Known : ℕ → List ℕ → Type 0
Known types [] = Unit {0}
Known types (t ∷ due) = (t < types) × Known types due

pub known-append : (types : ℕ) (ks due : List ℕ) → Known types ks → Known types due → Known types (ks ++ due)
known-append types [] due a b = b
known-append types (k ∷ ks) due a b = (a.0, known-append types ks due a.1 b)

-- where every type has a finite tree, trees of any known types can be had
pub forest-of : (g : List Constructor) (types : ℕ) → Finite g types → (due : List ℕ) → Known types due → (f : Forest) × OfTypes g due f
forest-of g types finite [] k = (none, refl)
forest-of g types finite (t ∷ due) k =
    let x = finite t k.0 in
    let f = forest-of g types finite due k.1 in
    (more x.0 f.0, (t, due, refl, x.1, f.1))

pub begins-less : {A : Type 0} (head : Spelling A) (g : List Constructor) (t : ℕ) (word : List A) (p q : ℕ) → q < p → Begins head g t (take p word) → Begins head g t (take (q + 1) word)
begins-less head g t word p q h b =
    let back : take (q + 1) (take p word) ≡ take (q + 1) word = take-take (q + 1) p word (omega arith) in
    let parts = sym (take-append-drop (q + 1) (take p word)) in
    (b.0, drop (q + 1) (take p word) ++ b.1, b.2, b.3 ∙ ap (λ l. l ++ b.1) parts ∙ append_assoc (take (q + 1) (take p word)) (drop (q + 1) (take p word)) b.1 ∙ ap (λ l. l ++ (drop (q + 1) (take p word) ++ b.1)) back)

module _ {S A : Type 0} (next : S → A → Option S) (done : S → Bool) (s₀ : S) (head : Spelling A) (g : List Constructor) (types t : ℕ) (accepted : (x : Tree) → OfType g t x → reads next done s₀ (spelled head x) 0 ≡ Ok tt) (ended : (x : Tree) → OfType g t x → (a : A) (rest : List A) → reads next done s₀ (spelled head x ++ a ∷ rest) 0 ≡ Err (length (spelled head x))) where
  -- what is alive can be read on to the end
  module _ (Alive : S → Type 0) (alive-next : (s : S) (a : A) (s' : S) → next s a ≡ Some s' → Alive s → Alive s') where
    pub alive-after : (s : S) (u : List A) (s' : S) → after next done s u ≡ Some s' → Alive s → Alive s'
    alive-after s [] s' e h = subst Alive (let same : s ≡ s' = cc in same) h
    alive-after s (a ∷ u) s' e h = step (next s a) refl (λ m f k. alive-after m u s' f k)
      where
        step : (o : Option S) → next s a ≡ o → ((m : S) → after next done m u ≡ Some s' → Alive m → Alive s') → Alive s'
        step None k again = absurd (let f = ap (λ o. either o None (λ m. after next done m u)) k in let z : ◌≡◌ {A = ℕ} 0 1 = cc in omega arith)
        step (Some m) k again = let f = ap (λ o. either o None (λ m. after next done m u)) k in again m (sym f ∙ e) (alive-next s a m k h)

  -- a word that a tree and more spell breaks off behind the tree
  over : (word : List A) (q p : ℕ) → Spells head g t (take q word) → q ≤ length word → reads next done s₀ word 0 ≡ Err p → (tail : List A) → drop q word ≡ tail → (q ≡ length word) ⊎ (p ≡ q)
  over word q p x h e [] d = inl (let l = length-drop q word in let m = ap length d in omega arith)
  over word q p x h e (a ∷ tail) d =
      let parts : spelled head x.0 ++ a ∷ tail ≡ word = (λ i. x.2 i ++ sym d i) ∙ take-append-drop q word in
      let long : length (spelled head x.0) ≡ q = ap length x.2 ∙ length-take-le q word h in
      let there = sym (ended x.0 x.1 a tail) ∙ ap (λ l. reads next done s₀ l 0) parts ∙ e in
      inr (let same : length (spelled head x.0) ≡ p = cc in omega arith)

  pub leaves : (word : List A) (p : ℕ) → reads next done s₀ word 0 ≡ Err p → (Finite g types → (s : S) → after next done s₀ (take p word) ≡ Some s → (v : List A) × Spells head g t (take p word ++ v)) → Leaves head g types t word p
  leaves word p e finish =
      let b = breaks next done s₀ word 0 p e in
      let at : b.came ≡ p = let h = b.place in omega arith in
      let in-word = b.inside in
      record {
        inside = omega arith;
        stuck = λ h x. b.stuck (omega arith) x.1 (ap (λ n. reads next done s₀ (take (n + 1) word ++ x.1) 0) at ∙ ap (λ l. reads next done s₀ l 0) (sym x.3) ∙ accepted x.0 x.2);
        unfinished = λ h q k x.
            let whole = λ (f : q ≡ length word). never {X = ⊥} (reads next done s₀ word 0) tt (ap (λ l. reads next done s₀ l 0) (sym (take_all q word (omega arith)) ∙ sym x.2) ∙ accepted x.0 x.1) e in
            ⊎_elim whole (λ (f : p ≡ q). whole (omega arith)) (over word q p x (omega arith) e (drop q word) refl);
        least = λ finite q h.
            let f = finish finite b.state (ap (λ n. after next done s₀ (take n word)) (sym at) ∙ b.there) in
            begins-less head g t word p q h (f.1.0, f.0, f.1.1, f.1.2);
      }
