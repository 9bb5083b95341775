-- The rows of bytes, one by one.
use Rattle.std.proofs.Common.{◌≡◌, ℕ, zero, suc, ◌+◌, ◌*◌, ◌<◌, Bool, true, false, cond, ltb, List, [], ◌∷◌, length, take, drop, Some, None, Option, sym, refl, ap, ◌∙◌, arith}
use Rattle.std.specs.List.{slice_get}
use Rattle.std.proofs.lemmas.List.{drop-drop}
use Rattle.std.proofs.lemmas.Bool.{ltb-true, ltb-false}
use Rattle.std.proofs.lemmas.Option.{slice_get_past}
use Rattle.packed.specs.Forms.{either}
use Rattle.table.specs.declared.row.Row.{Row}
use Rattle.table.specs.Rows.{row_of}
use Rattle.table.specs.Order.{rows_from}

pub rows_on : (count : ℕ) (bs : List ℕ) (o : Option Row) → row_of (take 16 bs) ≡ o → rows_from (suc count) bs ≡ either o [] (λ r. r ∷ rows_from count (drop 16 bs))
rows_on count bs o e = ap (λ o. either o [] (λ r. r ∷ rows_from count (drop 16 bs))) e

-- where every row is one, row n is that of its sixteen bytes
pub rows-nth : (count : ℕ) (bs : List ℕ) (n : ℕ) → length (rows_from count bs) ≡ count → n < count → slice_get (rows_from count bs) n ≡ row_of (take 16 (drop (n * 16) bs))
rows-nth zero bs n all h = absurd (omega arith)
rows-nth (suc count) bs n all h = step n (row_of (take 16 bs)) refl h (λ m l k. rows-nth count (drop 16 bs) m l k)
  where
    step : (n : ℕ) (o : Option Row) → row_of (take 16 bs) ≡ o → n < suc count → ((m : ℕ) → length (rows_from count (drop 16 bs)) ≡ count → m < count → slice_get (rows_from count (drop 16 bs)) m ≡ row_of (take 16 (drop (m * 16) (drop 16 bs)))) → slice_get (rows_from (suc count) bs) n ≡ row_of (take 16 (drop (n * 16) bs))
    step n None e h again = absurd (let l = ap length (rows_on count bs None e) in omega arith)
    step zero (Some r) e h again = ap (λ l. slice_get l 0) (rows_on count bs (Some r) e) ∙ sym e
    step (suc n) (Some r) e h again =
        let l = ap length (rows_on count bs (Some r) e) in
        let far : 16 + n * 16 ≡ suc n * 16 = omega arith in
        ap (λ l. slice_get l (suc n)) (rows_on count bs (Some r) e)
        ∙ again n (omega arith) (omega arith)
        ∙ ap (λ l. row_of (take 16 l)) (drop-drop (n * 16) 16 bs ∙ ap (λ k. drop k bs) far)

-- what is got at a number
pub rows-get : (count : ℕ) (bs : List ℕ) (n : ℕ) → length (rows_from count bs) ≡ count → cond (ltb n count) (row_of (take 16 (drop (n * 16) bs))) None ≡ slice_get (rows_from count bs) n
rows-get count bs n all = test (ltb n count) refl
  where
    test : (v : Bool) → ltb n count ≡ v → cond v (row_of (take 16 (drop (n * 16) bs))) None ≡ slice_get (rows_from count bs) n
    test true e = sym (rows-nth count bs n all (ltb-true n count e))
    test false e = let past = ltb-false n count e in sym (slice_get_past (rows_from count bs) n (omega arith))

-- where each sixteen bytes are a row, all rows are there
pub rows_all : (count : ℕ) (bs : List ℕ) → ((k : ℕ) → k < count → (r : Row) × (row_of (take 16 (drop (k * 16) bs)) ≡ Some r)) → length (rows_from count bs) ≡ count
rows_all zero bs each = refl
rows_all (suc count) bs each =
    let first = each 0 (omega arith) in
    ap length (rows_on count bs (Some first.0) first.1)
    ∙ ap suc (rows_all count (drop 16 bs) (λ k h.
    let r = each (suc k) (omega arith) in
    let far : 16 + k * 16 ≡ suc k * 16 = omega arith in
    (r.0, ap (λ l. row_of (take 16 l)) (drop-drop (k * 16) 16 bs ∙ ap (λ n. drop n bs) far) ∙ r.1)))

-- a test of a row that must be one
pub row-from-test : (o : Option Row) (test : Row → Bool) → either o false test ≡ true → (r : Row) × (o ≡ Some r)
row-from-test None test e = absurd (grind arith)
row-from-test (Some r) test e = (r, refl)
