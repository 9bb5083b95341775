-- The bytes that a text of hexadecimal digits spells.
use Rattle.std.specs.Prelude.{ℕ, ◌+◌, ◌-◌, ◌*◌, cond, ◌&&◌, List, [], ◌∷◌, length, Some, None, Option, ◌==◌, nat_le, slice_index}
use Rattle.std.specs.Option.{option_map}

-- what a digit stands for: 0 to 9, A to F or a to f
abbrev pub digit_of : ℕ → Option ℕ
digit_of c =
    cond (nat_le 48 c && nat_le c 57) (Some (c - 48))
    (cond (nat_le 65 c && nat_le c 70) (Some (c - 65 + 10))
    (cond (nat_le 97 c && nat_le c 102) (Some (c - 97 + 10)) None))

-- two digits as a byte
abbrev pub paired : Option ℕ → Option ℕ → Option ℕ
paired None low = None
paired (Some h) None = None
paired (Some h) (Some l) = Some (h * 16 + l)

abbrev pub byte_of : ℕ → ℕ → Option ℕ
byte_of high low = paired (digit_of high) (digit_of low)

-- a byte before those that the rest spells
abbrev pub before : Option ℕ → Option (List ℕ) → Option (List ℕ)
before None rest = None
before (Some b) rest = option_map (λ bs. b ∷ bs) rest

abbrev pub spelled : List ℕ → Option (List ℕ)
spelled [] = Some []
spelled (c ∷ []) = None
spelled (high ∷ low ∷ rest) = before (byte_of high low) (spelled rest)

-- the bytes that a word of a command writes: a hyphen for no bytes, else their digits
abbrev pub written : List ℕ → Option (List ℕ)
written word = cond (length word == 0) None (cond (length word == 1 && slice_index word 0 == 45) (Some []) (spelled word))
