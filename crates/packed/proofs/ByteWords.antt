-- Bytes as a spelling of trees.
use Rattle.std.proofs.Common.{◌≡◌, ℕ, zero, suc, ◌+◌, ◌*◌, ◌<◌, ◌≤◌, List, [], ◌∷◌, ◌++◌, length, get_or, take, drop, replicate, Some, None, Ok, Err, Option, sym, refl, ap, ◌∙◌, subst, ⊎_elim, arith}
use Rattle.std.specs.List.{slice_get}
use Rattle.std.proofs.lemmas.List.{drop_at, length-append, length-drop, length-replicate, take-append-drop}
use Rattle.std.proofs.lemmas.Option.{slice_get_within}
use Rattle.std.proofs.lemmas.Bool.{cases_lt}
use Rattle.packed.specs.declared.constructor.Constructor.{Constructor}
use Rattle.packed.specs.Forms.{either, subtrees, form_at}
use Rattle.packed.specs.Reading.{Left, left, next_byte, nothing_left, read_bytes}
use Rattle.packed.specs.Trees.{Tree, Forest, OfType, OfTypes, spelled, spelled_all, eights, as_bytes}
use Rattle.packed.specs.Trees.Tree.{tree}
use Rattle.packed.specs.Trees.Forest.{none, more}
use Rattle.packed.specs.Packing.{integers_in}
use Rattle.packed.specs.Laws.{Spells, Finite, Leaves}
use Rattle.packed.proofs.Fair.{form_of, form-named}
use Rattle.packed.proofs.Scans.{tag_read, skip_all, skip-short}
use Rattle.packed.proofs.Words.{read-after, read-moved, never}
use Rattle.packed.proofs.Digits.{Bytes, eights-bytes, bytes-append, bytes_drop, length-eights, length-integers, fit-integers, eights-integers}
use Rattle.packed.proofs.Growth.{Onward, Begun, tree-accepted, tree-ended, forest-accepted, tree-grown}
use Rattle.packed.proofs.Least.{Known, known-append, forest-of, alive-after, leaves}

-- bytes, by what is known of each place
pub bytes-from : (bs : List ℕ) (n : ℕ) → ((i : ℕ) → i < n → get_or bs i 0 < 256) → Bytes (take n bs)
bytes-from [] zero f = tt
bytes-from [] (suc n) f = tt
bytes-from (b ∷ bs) zero f = tt
bytes-from (b ∷ bs) (suc n) f = (f 0 (omega arith), bytes-from bs n (λ i h. f (suc i) (omega arith)))

module _ (g : List Constructor) where
  pub bytes-onward : Onward g (next_byte g) nothing_left (left 0) as_bytes
  bytes-onward t due k zs c h word p =
      let n = 8 * c.fields.integers in
      let long : length (eights zs) ≡ 8 * c.fields.integers = length-eights zs ∙ ap (λ m. 8 * m) h.long in
      let whole = length-append (eights zs) word in
      tag_read g t due k (eights zs ++ word) p (Some c) (form_of g t k c h.named h.typed)
      ∙ skip_all g n (subtrees c ++ due) (eights zs ++ word) (p + 1) (omega arith)
      ∙ ap (λ l. read_bytes g (left 0 (subtrees c ++ due)) l (p + 1 + n)) (drop_at (eights zs) word n long)
      ∙ ap (read_bytes g (left 0 (subtrees c ++ due)) word) (omega arith)

  pub bytes-shut : (word : List ℕ) (p : ℕ) → read_bytes g (left 0 []) word p ≡ Ok tt → word ≡ []
  bytes-shut [] p e = refl
  bytes-shut (b ∷ bs) p e = absurd (let z : ◌≡◌ {A = ℕ} 0 1 = cc in omega arith)

  abbrev Opens : ℕ → List ℕ → List ℕ → ℕ → Type 0
  Opens t due word p = Begun g (next_byte g) nothing_left (left 0) as_bytes Bytes t due word p

  pub bytes-begun : (t : ℕ) (due word : List ℕ) (p : ℕ) → Bytes word → read_bytes g (left 0 (t ∷ due)) word p ≡ Ok tt → Opens t due word p
  bytes-begun t due [] p q e = absurd (let z : ◌≡◌ {A = ℕ} 0 1 = cc in omega arith)
  bytes-begun t due (b ∷ bs) p q e = step (form_at g t b) refl
    where
      step : (o : Option Constructor) → form_at g t b ≡ o → Opens t due (b ∷ bs) p
      step None k = never (read_bytes g (left 0 (t ∷ due)) (b ∷ bs) p) tt e (tag_read g t due b bs p None k)
      step (Some c) k = ⊎_elim cut long (cases_lt (length bs) (8 * c.fields.integers))
        where
          on : read_bytes g (left (8 * c.fields.integers) (subtrees c ++ due)) bs (p + 1) ≡ Ok tt
          on = sym (tag_read g t due b bs p (Some c) k) ∙ e

          cut : length bs < 8 * c.fields.integers → Opens t due (b ∷ bs) p
          cut h = never (read_bytes g (left (8 * c.fields.integers) (subtrees c ++ due)) bs (p + 1)) tt on (skip-short g (8 * c.fields.integers) (subtrees c ++ due) bs (p + 1) h)

          long : 8 * c.fields.integers ≤ length bs → Opens t due (b ∷ bs) p
          long h =
              let m = c.fields.integers in
              let zs = integers_in m bs in
              let named = form-named g t b c k in
              let spelt : eights (integers_in c.fields.integers bs) ≡ take (8 * c.fields.integers) bs = eights-integers m bs h q.1 in
              let short = length-drop (8 * m) bs in
              let size : length (eights (integers_in c.fields.integers bs)) ≡ 8 * c.fields.integers = length-eights zs ∙ ap (λ x. 8 * x) (length-integers m bs) in
              record {
                number = b;
                integers = zs;
                form = c;
                heads = record { named = named.0; typed = named.1; long = length-integers m bs; fit = fit-integers m bs h q.1 };
                rest = drop (8 * m) bs;
                same = ap (λ l. b ∷ l) (sym (take-append-drop (8 * m) bs) ∙ ap (λ l. l ++ drop (8 * m) bs) (sym spelt));
                fewer = omega arith;
                good = bytes_drop (8 * m) bs q.1;
                goes = ap (read_bytes g (left 0 (subtrees c ++ due)) (drop (8 * m) bs)) (omega arith) ∙ sym (skip_all g (8 * m) (subtrees c ++ due) bs (p + 1) h) ∙ on;
              }

  pub bytes-ended : (x : Tree) (t : ℕ) → OfType g t x → (a : ℕ) (rest : List ℕ) → read_bytes g (left 0 (t ∷ [])) (spelled as_bytes x ++ a ∷ rest) 0 ≡ Err (length (spelled as_bytes x))
  bytes-ended x t w a rest = tree-ended g (next_byte g) nothing_left (left 0) as_bytes bytes-onward x t (λ b more p. refl) w a rest

  pub bytes-accepted : (x : Tree) (t : ℕ) → OfType g t x → read_bytes g (left 0 (t ∷ [])) (spelled as_bytes x) 0 ≡ Ok tt
  bytes-accepted x t w = tree-accepted g (next_byte g) nothing_left (left 0) as_bytes bytes-onward x t refl w

  pub bytes-grown : (t : ℕ) (word : List ℕ) → Bytes word → read_bytes g (left 0 (t ∷ [])) word 0 ≡ Ok tt → Spells as_bytes g t word
  bytes-grown t word q e = tree-grown g (next_byte g) nothing_left (left 0) as_bytes Bytes bytes-begun bytes-shut t word 0 q e

  module _ (most : length g ≤ 256) where
    -- the spelling of a tree is bytes
    mutual
      tree-bytes : (x : Tree) (t : ℕ) → OfType g t x → Bytes (spelled as_bytes x)
      tree-bytes (tree k zs ts) t w =
          let l = slice_get_within g k w.0 w.1.named in
          (omega arith, bytes-append (eights zs) (spelled_all as_bytes ts) (eights-bytes zs) (forest-bytes ts (subtrees w.0) w.2))

      forest-bytes : (f : Forest) (ks : List ℕ) → OfTypes g ks f → Bytes (spelled_all as_bytes f)
      forest-bytes none ks w = tt
      forest-bytes (more x f) ks w = bytes-append (spelled as_bytes x) (spelled_all as_bytes f) (tree-bytes x w.0 w.3) (forest-bytes f w.1 w.4)

    module _ (types : ℕ) (fair : (b : ℕ) (c : Constructor) → slice_get g b ≡ Some c → Known types (subtrees c)) where
      abbrev Alive : Left → Type 0
      Alive (left skip due) = Known types due

      alive-next : (s : Left) (b : ℕ) (s' : Left) → next_byte g s b ≡ Some s' → Alive s → Alive s'
      alive-next (left (suc n) due) b s' e h = subst Alive (let same : left n due ≡ s' = cc in same) h
      alive-next (left zero []) b s' e h = absurd (let z : ◌≡◌ {A = ℕ} 0 1 = cc in omega arith)
      alive-next (left zero (t ∷ due)) b s' e h = step (form_at g t b) refl
        where
          step : (o : Option Constructor) → form_at g t b ≡ o → Alive s'
          step None k = absurd (let f = ap (λ o. either o None (λ c. Some (left (8 * c.fields.integers) (subtrees c ++ due)))) k in let z : ◌≡◌ {A = ℕ} 0 1 = cc in omega arith)
          step (Some c) k =
              let f = ap (λ o. either o None (λ c. Some (left (8 * c.fields.integers) (subtrees c ++ due)))) k in
              let same : left (8 * c.fields.integers) (subtrees c ++ due) ≡ s' = cc in
              subst Alive same (known-append types (subtrees c) due (fair b c (form-named g t b c k).0) h.1)

      zeros-bytes : (n : ℕ) → Bytes (replicate n 0)
      zeros-bytes zero = tt
      zeros-bytes (suc n) = (omega arith, zeros-bytes n)

      -- zeros for the integer bytes still to come, then trees of the types still due
      finish : Finite g types → (s : Left) → Alive s → (v : List ℕ) × Bytes v × (read_bytes g s v 0 ≡ Ok tt)
      finish finite (left skip due) h =
          let f = forest-of g types finite due h in
          let trees = spelled_all as_bytes f.0 in
          let long : length (replicate {A = ℕ} skip 0) ≡ skip = length-replicate skip 0 in
          let whole = length-append (replicate skip 0) trees in
          (replicate skip 0 ++ trees, bytes-append (replicate skip 0) trees (zeros-bytes skip) (forest-bytes f.0 due f.1), skip_all g skip due (replicate skip 0 ++ trees) 0 (omega arith) ∙ ap (λ l. read_bytes g (left 0 due) l (0 + skip)) (drop_at (replicate skip 0) trees skip long) ∙ forest-accepted g (next_byte g) nothing_left (left 0) as_bytes bytes-onward f.0 due (0 + skip) refl f.1)

      pub bytes-leave : (t : ℕ) (word : List ℕ) (p : ℕ) → t < types → Bytes (take p word) → read_bytes g (left 0 (t ∷ [])) word 0 ≡ Err p → Leaves as_bytes g types t word p
      bytes-leave t word p known q e =
          leaves (next_byte g) nothing_left (left 0 (t ∷ [])) as_bytes g types t (λ x w. bytes-accepted x t w) (λ x w. bytes-ended x t w) word p e
          (λ finite s there.
          let alive = alive-after (next_byte g) nothing_left (left 0 (t ∷ [])) as_bytes g types t (λ x w. bytes-accepted x t w) (λ x w. bytes-ended x t w) Alive alive-next (left 0 (t ∷ [])) (take p word) s there (known, tt) in
          let f = finish finite s alive in
          let on = read-after (next_byte g) nothing_left (left 0 (t ∷ [])) s (take p word) f.0 0 there ∙ read-moved (next_byte g) nothing_left s f.0 0 (0 + length (take p word)) f.2 in
          (f.0, bytes-grown t (take p word ++ f.0) (bytes-append (take p word) f.0 q f.1) on))
