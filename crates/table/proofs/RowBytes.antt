-- Rows and their bytes, both ways.
use Rattle.std.proofs.Common.{◌≡◌, ℕ, zero, suc, ◌+◌, ◌*◌, ◌/◌, ◌%◌, ◌<◌, ◌≤◌, Bool, true, false, cond, eqb, List, [], ◌∷◌, ◌++◌, length, get_or, take, drop, Some, None, Option, sym, refl, ap, ◌∙◌, arith}
use Rattle.std.specs.Bool.{then_some}
use Rattle.std.proofs.lemmas.Bool.Decides.{nat_tests}
use Rattle.packed.specs.Packing.{joined, integer}
use Rattle.packed.specs.Trees.{low}
use Rattle.packed.proofs.Digits.{Bytes, integer-eight, eight-integer}
use Rattle.table.specs.declared.row.Row.{Row}
use Rattle.table.specs.declared.row.Row.TheVariants as row
use Rattle.table.specs.Rows.{zeros, closed, row_of, operands_of, variable_of, number_of, sum_of, difference_of, region_of, start_of, past_of, after_of, construct_of, let_of, test_of, call_of, case_of, branch_of}
use Rattle.table.specs.Encoding.{Held, padded, row_bytes}

-- what holds of n numbers, one by one, holds of every list of n
abbrev OfEach : ℕ → (List ℕ → Type 0) → Type 0
OfEach zero P = P []
OfEach (suc n) P = (b : ℕ) → OfEach n (λ bs. P (b ∷ bs))

of-each : (n : ℕ) (P : List ℕ → Type 0) → OfEach n P → (bs : List ℕ) → length bs ≡ n → P bs
of-each zero P f [] e = f
of-each zero P f (b ∷ bs) e = absurd (omega arith)
of-each (suc n) P f [] e = absurd (omega arith)
of-each (suc n) P f (b ∷ bs) e = of-each n (λ l. P (b ∷ l)) (f b) bs (omega arith)

-- the number that eight bytes make, as the machine's conversion has it
abbrev machine : List ℕ → ℕ
machine bs = get_or bs 0 0 + get_or bs 1 0 * 256 + get_or bs 2 0 * 65536 + get_or bs 3 0 * 16777216 + get_or bs 4 0 * 4294967296 + get_or bs 5 0 * 1099511627776 + get_or bs 6 0 * 281474976710656 + get_or bs 7 0 * 72057594037927936

pub joined-front : (bs : List ℕ) → length bs ≡ 15 → machine bs ≡ joined (take 8 bs)
joined-front = of-each 15 (λ bs. machine bs ≡ joined (take 8 bs)) (λ a b c d e f g h i j l m n o p. omega arith)

-- bytes laid over the front of padding are padded
pub padded-front : (n : ℕ) (bs : List ℕ) → length bs ≤ n → bs ++ drop (length bs) (padded n []) ≡ padded n bs
padded-front n [] h = refl
padded-front zero (b ∷ bs) h = absurd (omega arith)
padded-front (suc n) (b ∷ bs) h = ap (λ l. b ∷ l) (padded-front n bs (omega arith))

-- the bytes of a row spell it
pub row-of-bytes : (r : Row) → Held r → row_of (row_bytes r) ≡ Some r
row-of-bytes (row.Variable x) h = refl
row-of-bytes (row.Number value) h = ap (λ z. Some (row.Number z)) (integer-eight value h)
row-of-bytes (row.Sum x y) h = refl
row-of-bytes (row.Difference x y) h = refl
row-of-bytes (row.Region r room) h = ap (λ n. Some (row.Region r n)) (omega arith)
row-of-bytes (row.Start l r) h = refl
row-of-bytes (row.Past l m k) h = refl
row-of-bytes (row.After l m t) h = refl
row-of-bytes (row.Construct form l v0 v1 v2 v3 v4 v5 v6 v7) h = refl
row-of-bytes (row.Let x kind l body) h = ap (λ n. Some (row.Let x kind l n)) (omega arith)
row-of-bytes (row.Test x y other) h = ap (λ n. Some (row.Test x y n)) (omega arith)
row-of-bytes (row.Call f l v0 v1 v2 v3) h = refl
row-of-bytes (row.Case x) h = refl
row-of-bytes (row.Branch form x0 l0 next) h = ap (λ n. Some (row.Branch form x0 l0 n)) (omega arith)

-- bytes that are all 0 are padding
zeros-padded : (bs : List ℕ) → zeros bs ≡ true → bs ≡ padded (length bs) []
zeros-padded [] e = refl
zeros-padded (b ∷ bs) e =
    let first : b ≡ 0 = grind (arith, nat_tests) in
    let others : zeros bs ≡ true = grind (arith, nat_tests) in
    λ i. first i ∷ zeros-padded bs others i

-- a row closed by bytes has them as its last bytes
closed-back : (q r : Row) (front rest : List ℕ) → row_bytes q ≡ front ++ padded (length rest) [] → closed q rest ≡ Some r → row_bytes r ≡ front ++ rest
closed-back q r front rest whole e = step (zeros rest) refl e
  where
    step : (b : Bool) → zeros rest ≡ b → then_some b q ≡ Some r → row_bytes r ≡ front ++ rest
    step true z k = let same : r ≡ q = cc in ap row_bytes same ∙ whole ∙ ap (λ l. front ++ l) (sym (zeros-padded rest z))
    step false z k = cc

-- one kind among others
kind-back : (k n : ℕ) (bs : List ℕ) (r : Row) (this others : Option Row) → (this ≡ Some r → row_bytes r ≡ n ∷ bs) → (others ≡ Some r → row_bytes r ≡ k ∷ bs) → cond (eqb k n) this others ≡ Some r → row_bytes r ≡ k ∷ bs
kind-back k n bs r this others f g e = step (eqb k n) refl e
  where
    step : (b : Bool) → eqb k n ≡ b → cond b this others ≡ Some r → row_bytes r ≡ k ∷ bs
    step true z h = let same : n ≡ k = grind (arith, nat_tests) in f h ∙ ap (λ m. m ∷ bs) same
    step false z h = g h

-- two bytes are those of the word that they make
low_word : (a b : ℕ) → a < 256 → b < 256 → low 2 (a + 256 * b) ≡ a ∷ b ∷ []
low_word a b h k =
    let first : (a + 256 * b) % 256 ≡ a = omega arith in
    let rest : (a + 256 * b) / 256 ≡ b = omega arith in
    let second : b % 256 ≡ b = omega arith in
    λ i. first i ∷ (ap (λ n. n % 256) rest ∙ second) i ∷ []

-- the bytes of a row that these sixteen spell, kind by kind
module _ (r : Row) (k a b c d e f g h i j l m n o p : ℕ) (small : (at : ℕ) → get_or (k ∷ a ∷ b ∷ c ∷ d ∷ e ∷ f ∷ g ∷ h ∷ i ∷ j ∷ l ∷ m ∷ n ∷ o ∷ p ∷ []) at 0 < 256) where
  abbrev operands : List ℕ
  operands = a ∷ b ∷ c ∷ d ∷ e ∷ f ∷ g ∷ h ∷ i ∷ j ∷ l ∷ m ∷ n ∷ o ∷ p ∷ []

  -- the first n operands are those of the row q
  by-closing : (kind n : ℕ) (q : Row) → row_bytes q ≡ kind ∷ (take n operands ++ padded (length (drop n operands)) []) → closed q (drop n operands) ≡ Some r → row_bytes r ≡ kind ∷ (take n operands ++ drop n operands)
  by-closing kind n q = closed-back q r (kind ∷ take n operands) (drop n operands)

  number-back : number_of operands ≡ Some r → row_bytes r ≡ 1 ∷ operands
  number-back =
      let bytes : Bytes (take 8 operands) = (small 1, (small 2, (small 3, (small 4, (small 5, (small 6, (small 7, (small 8, tt)))))))) in
      by-closing 1 8 (row.Number (integer (take 8 operands))) (ap (λ l. 1 ∷ (l ++ padded 7 [])) (eight-integer (take 8 operands) refl bytes))

  region-back : region_of operands ≡ Some r → row_bytes r ≡ 4 ∷ operands
  region-back = by-closing 4 3 (row.Region a (b + 256 * c)) (ap (λ l. 4 ∷ a ∷ (l ++ padded 12 [])) (low_word b c (small 2) (small 3)))

  let-back : let_of operands ≡ Some r → row_bytes r ≡ 9 ∷ operands
  let-back = by-closing 9 5 (row.Let a b c (d + 256 * e)) (ap (λ l. 9 ∷ a ∷ b ∷ c ∷ (l ++ padded 10 [])) (low_word d e (small 4) (small 5)))

  test_back : test_of operands ≡ Some r → row_bytes r ≡ 10 ∷ operands
  test_back = by-closing 10 4 (row.Test a b (c + 256 * d)) (ap (λ l. 10 ∷ a ∷ b ∷ (l ++ padded 11 [])) (low_word c d (small 3) (small 4)))

  branch_back : branch_of operands ≡ Some r → row_bytes r ≡ 13 ∷ operands
  branch_back = by-closing 13 5 (row.Branch a b c (d + 256 * e)) (ap (λ l. 13 ∷ a ∷ b ∷ c ∷ (l ++ padded 10 [])) (low_word d e (small 4) (small 5)))

  none-back : None ≡ Some r → row_bytes r ≡ k ∷ operands
  none-back e = cc

  kinds-back : operands_of k operands ≡ Some r → row_bytes r ≡ k ∷ operands
  kinds-back =
      kind-back k 0 operands r (variable_of operands) _ (by-closing 0 1 (row.Variable a) refl)
      (kind-back k 1 operands r (number_of operands) _ number-back
      (kind-back k 2 operands r (sum_of operands) _ (by-closing 2 2 (row.Sum a b) refl)
      (kind-back k 3 operands r (difference_of operands) _ (by-closing 3 2 (row.Difference a b) refl)
      (kind-back k 4 operands r (region_of operands) _ region-back
      (kind-back k 5 operands r (start_of operands) _ (by-closing 5 2 (row.Start a b) refl)
      (kind-back k 6 operands r (past_of operands) _ (by-closing 6 3 (row.Past a b c) refl)
      (kind-back k 7 operands r (after_of operands) _ (by-closing 7 3 (row.After a b c) refl)
      (kind-back k 8 operands r (construct_of operands) _ (by-closing 8 10 (row.Construct a b c d e f g h i j) refl)
      (kind-back k 9 operands r (let_of operands) _ let-back
      (kind-back k 10 operands r (test_of operands) _ test_back
      (kind-back k 11 operands r (call_of operands) _ (by-closing 11 6 (row.Call a b c d e f) refl)
      (kind-back k 12 operands r (case_of operands) _ (by-closing 12 1 (row.Case a) refl)
      (kind-back k 13 operands r (branch_of operands) None branch_back none-back)))))))))))))

-- bytes that spell a row are sixteen
pub length-spelled : (bs : List ℕ) (r : Row) → row_of bs ≡ Some r → length bs ≡ 16
length-spelled bs r e = grind (arith, nat_tests)

-- bytes that spell a row are the row's bytes
pub bytes-of-row : (bs : List ℕ) (r : Row) → row_of bs ≡ Some r → ((i : ℕ) → get_or bs i 0 < 256) → row_bytes r ≡ bs
bytes-of-row bs r e small =
    of-each 16 (λ l. row_of l ≡ Some r → ((i : ℕ) → get_or l i 0 < 256) → row_bytes r ≡ l)
    (λ k a b c d e f g h i j l m n o p whole small. kinds-back r k a b c d e f g h i j l m n o p small whole)
    bs (length-spelled bs r e) e small
