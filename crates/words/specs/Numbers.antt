-- Numbers that are written as decimal digits.
use Rattle.std.specs.Prelude.{ℕ, ◌+◌, ◌-◌, ◌*◌, cond, ◌&&◌, List, [], ◌∷◌, length, ℤ, pos, neg_ℤ, Some, None, Option, ◌==◌, nat_le}
use Rattle.std.specs.Option.{option_map}
use Rattle.packed.specs.Forms.{either}
use Rattle.words.specs.Text.{behind_name}

-- a number with one more digit, where it stays within the limit
abbrev pub appended_of : ℕ → ℕ → ℕ → Option ℕ
appended_of limit n c = cond (nat_le 48 c && nat_le c 57) (cond (nat_le (10 * n + (c - 48)) limit) (Some (10 * n + (c - 48))) None) None

abbrev pub digits_of : ℕ → ℕ → List ℕ → Option ℕ
digits_of limit n [] = Some n
digits_of limit n (c ∷ cs) = either (appended_of limit n c) None (λ m. digits_of limit m cs)

-- the number that digits write: there is at least one
abbrev pub natural_of : ℕ → List ℕ → Option ℕ
natural_of limit text = cond (length text == 0) None (digits_of limit 0 text)

abbrev pub byte_of : List ℕ → Option ℕ
byte_of = natural_of 255

-- a buffer has at most a million places
abbrev pub room_of : List ℕ → Option ℕ
room_of = natural_of 1000000

abbrev pub below_zero : List ℕ → Option ℤ
below_zero text = option_map (λ n. neg_ℤ (pos n)) (natural_of 9223372036854775808 text)

abbrev pub above_zero : List ℕ → Option ℤ
above_zero text = option_map pos (natural_of 9223372036854775807 text)

-- an integer of 64 bits: digits, or a hyphen and digits
abbrev pub integer_of : List ℕ → Option ℤ
integer_of text = either (behind_name (45 ∷ []) text) (above_zero text) below_zero
