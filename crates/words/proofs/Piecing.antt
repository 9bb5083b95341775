-- What one turn of a loop over pieces keeps: what the pieces so far stand for, before what the rest stands for, is what the whole
-- text stands for. `sep` lies between the pieces, and `read` reads one.
use Rattle.std.proofs.Common.{◌≡◌, ℕ, Bool, true, false, cond, eqb, List, [], ◌∷◌, ◌++◌, Some, None, Option, sym, refl, ap, ◌∙◌}
use Rattle.std.specs.List.{onto_first}
use Rattle.packed.specs.Forms.{either}
use Rattle.words.proofs.Each.{after, after_more}
use Rattle.words.specs.Text.{head_of, tail_of, pieces, ahead, each_of}

cut-case : (sep : ℕ) (b : Bool) (c : ℕ) (h cs : List ℕ) (o : Option (List ℕ)) → pieces sep cs ≡ h ∷ either o [] (pieces sep) → cond b ([] ∷ pieces sep cs) (onto_first c (pieces sep cs)) ≡ cond b [] (c ∷ h) ∷ either (cond b (Some cs) o) [] (pieces sep)
cut-case sep true c h cs o e = refl
cut-case sep false c h cs o e = ap (onto_first c) e

-- pieces are the first one, and those of what stands behind the separator
pieces-cut : (sep : ℕ) (t : List ℕ) → pieces sep t ≡ head_of sep t ∷ either (tail_of sep t) [] (pieces sep)
pieces-cut sep [] = refl
pieces-cut sep (c ∷ cs) = cut-case sep (eqb c sep) c (head_of sep cs) cs (tail_of sep cs) (pieces-cut sep cs)

module _ {A : Type 0} (sep : ℕ) (read : List ℕ → Option A) where
  abbrev spelled : List ℕ → Option (List A)
  spelled t = each_of read (pieces sep t)

  spelled-cut : (t : List ℕ) (o : Option A) (u : Option (List ℕ)) → o ≡ read (head_of sep t) → u ≡ tail_of sep t → spelled t ≡ ahead o (each_of read (either u [] (pieces sep)))
  spelled-cut t o u eo eu =
      ap (each_of read) (pieces-cut sep t)
      ∙ ap (λ x. ahead x (each_of read (either (tail_of sep t) [] (pieces sep)))) (sym eo)
      ∙ ap (λ x. ahead o (each_of read (either x [] (pieces sep)))) (sym eu)

  pub no-piece : (text t : List ℕ) (out : List A) → None ≡ read (head_of sep t) → after out (spelled t) ≡ spelled text → None ≡ spelled text
  no-piece text t out e inv = sym (ap (after out) (spelled-cut t None (tail_of sep t) e refl)) ∙ inv

  pub piece-more : (text t u : List ℕ) (out more : List A) (n : A) → more ≡ out ++ n ∷ [] → Some n ≡ read (head_of sep t) → Some u ≡ tail_of sep t → after out (spelled t) ≡ spelled text → after more (spelled u) ≡ spelled text
  piece-more text t u out more n pushed en eu inv =
      ap (λ l. after l (spelled u)) pushed
      ∙ after_more out n (spelled u)
      ∙ sym (ap (after out) (spelled-cut t (Some n) (Some u) en eu))
      ∙ inv

  pub piece-all : (text t : List ℕ) (out more : List A) (n : A) → more ≡ out ++ n ∷ [] → Some n ≡ read (head_of sep t) → None ≡ tail_of sep t → after out (spelled t) ≡ spelled text → Some more ≡ spelled text
  piece-all text t out more n pushed en eu inv =
      ap Some pushed
      ∙ sym (ap (after out) (spelled-cut t (Some n) None en eu))
      ∙ inv
