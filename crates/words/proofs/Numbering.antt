-- Numbers read digit by digit.
use Rattle.std.proofs.Common.{◌≡◌, ℕ, ◌+◌, ◌<◌, List, length, get_or, drop, Some, None, sym, ap, ◌∙◌}
use Rattle.std.proofs.lemmas.List.{at_drop_more}
use Rattle.packed.specs.Forms.{either}
use Rattle.words.specs.Numbers.{appended_of, digits_of}

pub digits_more : (limit n m : ℕ) (t : List ℕ) (i : ℕ) → i < length t → Some m ≡ appended_of limit n (get_or t i 0) → digits_of limit n (drop i t) ≡ digits_of limit 0 t → digits_of limit m (drop (i + 1) t) ≡ digits_of limit 0 t
digits_more limit n m t i h e inv =
    ap (λ o. either o None (λ k. digits_of limit k (drop (i + 1) t))) e
    ∙ sym (at_drop_more (digits_of limit n) t i 0 h)
    ∙ inv
