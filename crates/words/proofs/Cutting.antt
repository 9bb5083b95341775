-- Text cut at a separator: the parts on the two sides of its place, and what stands behind a name.
use Rattle.std.proofs.Common.{◌≡◌, ◌≢◌, ℕ, suc, ◌+◌, ◌-◌, ◌==◌, ◌<◌, ◌≤◌, Bool, true, false, not, cond, List, [], ◌∷◌, ◌++◌, length, take, drop, MatchOption, position, ltb, Some, None, Option, Bor, sym, refl, ap, ap₂, ◌∙◌, arith}
use Rattle.std.specs.List.{position_or_len}
use Rattle.std.specs.Option.{option_map}
use Rattle.std.proofs.lemmas.Bool.{ltb-true, ltb-false}
use Rattle.std.proofs.lemmas.Bool.Decides.{Decides-eqb}
use Rattle.std.proofs.lemmas.List.{length-drop, take_all}
use Rattle.words.specs.Text.{head_of, tail_of, behind_name}

abbrev place : ℕ → List ℕ → ℕ
place sep t = position_or_len (λ c. c == sep) t

-- the place that `position` answers
found-case : (b : Bool) (n m at : ℕ) → ltb n m ≡ b → Some at ≡ cond b (Some n) None → (at ≡ n) × (at < m)
found-case true n m at h e = let same : at ≡ n = cc in (same, omega (arith, ltb-true n m h))
found-case false n m at h e = absurd cc

missed-case : (b : Bool) (n m : ℕ) → ltb n m ≡ b → None ≡ cond b (Some n) None → m ≤ n
missed-case true n m h e = absurd cc
missed-case false n m h e = ltb-false n m h

found : (sep : ℕ) (t : List ℕ) (at : ℕ) → Some at ≡ position (λ c. c == sep) t → (at ≡ place sep t) × (at < length t)
found sep t at e = found-case (ltb (place sep t) (length t)) (place sep t) (length t) at refl e

missed : (sep : ℕ) (t : List ℕ) → None ≡ position (λ c. c == sep) t → length t ≤ place sep t
missed sep t e = missed-case (ltb (place sep t) (length t)) (place sep t) (length t) refl e

one-more : (n : ℕ) → suc n ≡ 1 + n
one-more n = omega arith

head-case : (b : Bool) (c n : ℕ) (h cs : List ℕ) → h ≡ take n cs → cond b [] (c ∷ h) ≡ take (cond (not b) (1 + n) 0) (c ∷ cs)
head-case true c n h cs e = refl
head-case false c n h cs e = ap (λ l. c ∷ l) e ∙ ap (λ k. take k (c ∷ cs)) (one-more n)

head-take : (sep : ℕ) (t : List ℕ) → head_of sep t ≡ take (place sep t) t
head-take sep [] = refl
head-take sep (c ∷ cs) = head-case (c == sep) c (place sep cs) (head_of sep cs) cs (head-take sep cs)

pub head-found : (sep : ℕ) (t : List ℕ) (at : ℕ) → Some at ≡ position (λ c. c == sep) t → take at t ≡ head_of sep t
head-found sep t at e = ap (λ n. take n t) (found sep t at e).0 ∙ sym (head-take sep t)

pub head-missed : (sep : ℕ) (t : List ℕ) → None ≡ position (λ c. c == sep) t → t ≡ head_of sep t
head-missed sep t e = sym (head-take sep t ∙ take_all (place sep t) t (missed sep t e))

tail-case : (b : Bool) (c n : ℕ) (o : Option (List ℕ)) (cs : List ℕ) → cond (not b) (1 + n) 0 < length (c ∷ cs) → (n < length cs → o ≡ Some (drop (n + 1) cs)) → cond b (Some cs) o ≡ Some (drop (cond (not b) (1 + n) 0 + 1) (c ∷ cs))
tail-case true c n o cs h e = refl
tail-case false c n o cs h e =
    let next : suc (n + 1) ≡ 1 + n + 1 = omega arith in
    e (omega arith) ∙ ap (λ k. Some (drop k (c ∷ cs))) next

tail-drop : (sep : ℕ) (t : List ℕ) → place sep t < length t → tail_of sep t ≡ Some (drop (place sep t + 1) t)
tail-drop sep [] h = absurd (omega arith)
tail-drop sep (c ∷ cs) h = tail-case (c == sep) c (place sep cs) (tail_of sep cs) cs h (tail-drop sep cs)

none-case : (b : Bool) (n c : ℕ) (o : Option (List ℕ)) (cs : List ℕ) → length (c ∷ cs) ≤ cond (not b) (1 + n) 0 → (length cs ≤ n → o ≡ None) → cond b (Some cs) o ≡ None
none-case true n c o cs h e = absurd (omega arith)
none-case false n c o cs h e = e (omega arith)

tail-none : (sep : ℕ) (t : List ℕ) → length t ≤ place sep t → tail_of sep t ≡ None
tail-none sep [] h = refl
tail-none sep (c ∷ cs) h = none-case (c == sep) (place sep cs) c (tail_of sep cs) cs h (tail-none sep cs)

-- all that stands from a place on, as a slice to the end has it
pub tail-found : (sep : ℕ) (t : List ℕ) (at : ℕ) → Some at ≡ position (λ c. c == sep) t → Some (take (length t - (at + 1)) (drop (at + 1) t)) ≡ tail_of sep t
tail-found sep t at e =
    let here = found sep t at e in
    let there : place sep t < length t = omega (arith, here.0, here.1) in
    let long = length-drop (at + 1) t in
    ap Some (take_all (length t - (at + 1)) (drop (at + 1) t) (omega arith))
    ∙ ap (λ n. Some (drop (n + 1) t)) here.0
    ∙ sym (tail-drop sep t there)

pub tail-missed : (sep : ℕ) (t : List ℕ) → None ≡ position (λ c. c == sep) t → None ≡ tail_of sep t
tail-missed sep t e = sym (tail-none sep t (missed sep t e))

-- a name that a line begins with, and one that it does not

same-case : (b : Bool) (o : Option (List ℕ)) → b ≡ true → cond b o None ≡ o
same-case true o e = refl
same-case false o e = absurd cc

behind_more : (name rest : List ℕ) → behind_name name (name ++ rest) ≡ Some rest
behind_more [] rest = refl
behind_more (n ∷ ns) rest = same-case (n == n) (behind_name ns (ns ++ rest)) ((Decides-eqb n n).1 refl) ∙ behind_more ns rest

other-case : (b : Bool) (o : Option (List ℕ)) → (b ≡ true → None ≡ o) → None ≡ cond b o None
other-case true o h = h refl
other-case false o h = refl

behind-other : (name line : List ℕ) → ((rest : List ℕ) → line ≢ name ++ rest) → None ≡ behind_name name line
behind-other [] line h = absurd (h line refl)
behind-other (n ∷ ns) [] h = refl
behind-other (n ∷ ns) (c ∷ cs) h = other-case (c == n) (behind_name ns cs) (λ e. behind-other ns cs (λ rest same. h rest (ap₂ ◌∷◌ ((Decides-eqb c n).0 e) same)))

pub behind-is : (name line : List ℕ) (r : Option (Bor (List ℕ))) → MatchOption r ((rest : List ℕ) → line ≢ name ++ rest) (λ x. line ≡ name ++ x.now) → option_map (λ x. x.now) r ≡ behind_name name line
behind-is name line None h = behind-other name line h
behind-is name line (Some x) h = sym (ap (behind_name name) h ∙ behind_more name x.now)
