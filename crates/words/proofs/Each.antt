-- What one turn of a loop that reads piece after piece keeps: what the pieces so far stand for, before what the rest stands for, is
-- what all of them stand for.
use Rattle.std.proofs.Common.{◌≡◌, ℕ, ◌+◌, ◌<◌, List, [], ◌∷◌, ◌++◌, length, get_or, drop, Some, None, Option, sym, refl, ap, ◌∙◌, append_assoc}
use Rattle.std.specs.Option.{option_map}
use Rattle.std.proofs.lemmas.List.{at_drop_more}
use Rattle.words.specs.Text.{ahead, each_of}

abbrev pub after : {A : Type 0} → List A → Option (List A) → Option (List A)
after out o = option_map (λ rest. out ++ rest) o

after-nothing : {A : Type 0} (o : Option (List A)) → after [] o ≡ o
after-nothing None = refl
after-nothing (Some rest) = refl

pub each-start : {A : Type 0} (out : List A) (o whole : Option (List A)) → out ≡ [] → o ≡ whole → after out o ≡ whole
each-start out o whole none e = ap (λ l. after l o) none ∙ after-nothing o ∙ e

pub after_more : {A : Type 0} (out : List A) (n : A) (o : Option (List A)) → after (out ++ n ∷ []) o ≡ after out (ahead (Some n) o)
after_more out n None = refl
after_more out n (Some rest) = ap Some (append_assoc out (n ∷ []) rest)

module _ {A : Type 0} (read : List ℕ → Option A) (ts : List (List ℕ)) (i : ℕ) (d : List ℕ) (out : List A) (whole : Option (List A)) where
  step : (o : Option A) → i < length ts → o ≡ read (get_or ts i d) → after out (each_of read (drop i ts)) ≡ whole → after out (ahead o (each_of read (drop (i + 1) ts))) ≡ whole
  step o h e inv =
      ap (λ x. after out (ahead x (each_of read (drop (i + 1) ts)))) e
      ∙ sym (at_drop_more (λ l. after out (each_of read l)) ts i d h)
      ∙ inv

  pub each-more : (more : List A) (n : A) → i < length ts → Some n ≡ read (get_or ts i d) → more ≡ out ++ n ∷ [] → after out (each_of read (drop i ts)) ≡ whole → after more (each_of read (drop (i + 1) ts)) ≡ whole
  each-more more n h e pushed inv =
      ap (λ l. after l (each_of read (drop (i + 1) ts))) pushed
      ∙ after_more out n (each_of read (drop (i + 1) ts))
      ∙ step (Some n) h e inv
