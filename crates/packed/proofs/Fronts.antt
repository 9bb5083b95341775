-- A write behind what a buffer's front holds makes the front longer.
use Rattle.std.proofs.Common.{◌≡◌, ℕ, ◌+◌, List, [], ◌++◌, length, take, drop, sym, refl, ap, ◌∙◌, subst}
use Rattle.std.proofs.lemmas.List.{take_at, drop_at, drop-drop, append_assoc, length-append}
use Rattle.packed.specs.Buffers.{Front}

pub front-none : {A : Type 0} (old : List A) → Front [] old 0 old
front-none old = record { long = refl; holds = refl }

pub front-more : {A : Type 0} (word old : List A) (at : ℕ) (out more out' : List A) (n : ℕ) → length more ≡ n → out' ≡ take at out ++ (more ++ drop (at + n) out) → Front word old at out → Front (word ++ more) old (at + n) out'
front-more word old at out more out' n l e f =
    let a = ap (take at) f.holds ∙ take_at word (drop at old) at f.long in
    let b : drop (at + n) out ≡ drop (at + n) old =
    sym (drop-drop n at out) ∙ ap (drop n) (ap (drop at) f.holds ∙ drop_at word (drop at old) at f.long) ∙ drop-drop n at old in
    record {
      long = length-append word more ∙ (λ i. f.long i + l i);
      holds = e ∙ (λ i. a i ++ (more ++ b i)) ∙ sym (append_assoc word more (drop (at + n) old));
    }

-- the same front, at an equal place and with an equal word
pub front_same : {A : Type 0} {word word' old out : List A} {at at' : ℕ} → word ≡ word' → at ≡ at' → Front word old at out → Front word' old at' out
front_same {A} {word} {word'} {old} {out} {at} {at'} p q f = subst (λ n. Front word' old n out) q (subst (λ w. Front w old at out) p f)
