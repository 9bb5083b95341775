-- Readings of any word: where one breaks off, and why not sooner.
use Rattle.std.proofs.Common.{◌≡◌, ℕ, suc, ◌+◌, ◌<◌, ◌≤◌, Bool, true, false, cond, List, [], ◌∷◌, ◌++◌, length, take, Some, None, Ok, Err, Option, Result, sym, refl, ap, ◌∙◌, arith}
use Rattle.packed.specs.Forms.{either}
use Rattle.packed.specs.Reading.{reads}

pub never : {X A E : Type 0} {p : E} (r : Result A E) (a : A) → r ≡ Ok a → r ≡ Err p → X
never r a e f = absurd (let z : ◌≡◌ {A = ℕ} 0 1 = cc in omega arith)

same_end : (b : Bool) (p q : ℕ) → cond {A = Result (Unit {0}) ℕ} b (Ok tt) (Err p) ≡ Ok tt → cond {A = Result (Unit {0}) ℕ} b (Ok tt) (Err q) ≡ Ok tt
same_end true p q e = refl
same_end false p q e = absurd (let z : ◌≡◌ {A = ℕ} 0 1 = cc in omega arith)

end-place : (b : Bool) (p q : ℕ) → cond {A = Result (Unit {0}) ℕ} b (Ok tt) (Err p) ≡ Err q → q ≡ p
end-place true p q e = absurd (let z : ◌≡◌ {A = ℕ} 0 1 = cc in omega arith)
end-place false p q e = cc

module _ {S A : Type 0} (next : S → A → Option S) (done : S → Bool) where
  abbrev Read : S → List A → ℕ → Result (Unit {0}) ℕ
  Read s word p = reads next done s word p

  -- the state behind a word
  abbrev pub after : S → List A → Option S
  after s [] = Some s
  after s (a ∷ word) = either (next s a) None (λ s'. after s' word)

  pub read-on : (s : S) (a : A) (word : List A) (p : ℕ) (o : Option S) → next s a ≡ o → reads next done s (a ∷ word) p ≡ either o (Err p) (λ s'. reads next done s' word (p + 1))
  read-on s a word p o e = ap (λ o. either o (Err p) (λ s'. reads next done s' word (p + 1))) e

  -- what is accepted from one place is from another
  pub read-moved : (s : S) (word : List A) (p q : ℕ) → reads next done s word p ≡ Ok tt → reads next done s word q ≡ Ok tt
  read-moved s [] p q e = same_end (done s) p q e
  read-moved s (a ∷ word) p q e = step (next s a) refl (λ s' f. read-moved s' word (p + 1) (q + 1) f)
    where
      step : (o : Option S) → next s a ≡ o → ((s' : S) → Read s' word (p + 1) ≡ Ok tt → Read s' word (q + 1) ≡ Ok tt) → Read s (a ∷ word) q ≡ Ok tt
      step None k again = never (Read s (a ∷ word) p) tt e (read-on s a word p None k)
      step (Some s') k again = read-on s a word q (Some s') k ∙ again s' (sym (read-on s a word p (Some s') k) ∙ e)

  pub read-after : (s s' : S) (u v : List A) (p : ℕ) → after s u ≡ Some s' → reads next done s (u ++ v) p ≡ reads next done s' v (p + length u)
  read-after s s' [] v p e =
      let same : s ≡ s' = cc in
      let here : p ≡ p + 0 = omega arith in
      λ i. Read (same i) v (here i)
  read-after s s' (a ∷ u) v p e = step (next s a) refl (λ m f. read-after m s' u v (p + 1) f)
    where
      step : (o : Option S) → next s a ≡ o → ((m : S) → after m u ≡ Some s' → Read m (u ++ v) (p + 1) ≡ Read s' v (p + 1 + length u)) → Read s (a ∷ (u ++ v)) p ≡ Read s' v (p + suc (length u))
      step None k again = absurd (let f = ap (λ o. either o None (λ m. after m u)) k in let z : ◌≡◌ {A = ℕ} 0 1 = cc in omega arith)
      step (Some m) k again =
          let f = ap (λ o. either o None (λ m. after m u)) k in
          let on : after m u ≡ Some s' = sym f ∙ e in
          read-on s a (u ++ v) p (Some m) k ∙ again m on ∙ ap (Read s' v) (omega arith)

  -- a reading that breaks off at q: `came` symbols were read, and nothing that has the next one in its place is accepted
  pub record Breaks (s : S) (word : List A) (p q : ℕ) : Type 0 where
    pub came : ℕ
    pub place : q ≡ p + came
    pub inside : came ≤ length word
    pub state : S
    pub there : after s (take came word) ≡ Some state
    pub stuck : came < length word → (v : List A) → reads next done s (take (came + 1) word ++ v) p ≡ Ok tt → ⊥

  pub breaks : (s : S) (word : List A) (p q : ℕ) → reads next done s word p ≡ Err q → Breaks s word p q
  breaks s [] p q e = record { came = 0; place = let h = end-place (done s) p q e in omega arith; inside = omega arith; state = s; there = refl; stuck = λ h v w. omega arith }
  breaks s (a ∷ word) p q e = step (next s a) refl (λ s' f. breaks s' word (p + 1) q f)
    where
      step : (o : Option S) → next s a ≡ o → ((s' : S) → Read s' word (p + 1) ≡ Err q → Breaks s' word (p + 1) q) → Breaks s (a ∷ word) p q
      step None k again =
          let f = read-on s a word p None k in
          record {
            came = 0;
            place = let h : q ≡ p = cc in omega arith;
            inside = omega arith;
            state = s;
            there = refl;
            stuck = λ h v w. never (Read s (a ∷ v) p) tt w (read-on s a v p None k);
          }
      step (Some s') k again =
          let b = again s' (sym (read-on s a word p (Some s') k) ∙ e) in
          let at = b.place in
          let in-word = b.inside in
          let more : suc b.came + 1 ≡ suc (b.came + 1) = omega arith in
          record {
            came = suc b.came;
            place = omega arith;
            inside = omega arith;
            state = b.state;
            there = ap (λ o. either o None (λ m. after m (take b.came word))) k ∙ b.there;
            stuck = λ h v w. b.stuck (omega arith) v
                (sym (read-on s a (take (b.came + 1) word ++ v) p (Some s') k) ∙ ap (λ n. Read s (take n (a ∷ word) ++ v) p) (sym more) ∙ w);
          }
