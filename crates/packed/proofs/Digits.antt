-- Integers and their eight bytes, both ways.
use Rattle.std.proofs.Common.{◌≡◌, ℕ, zero, suc, ◌+◌, ◌*◌, ◌/◌, ◌%◌, ◌^◌, ◌<◌, ◌≤◌, List, [], ◌∷◌, ◌++◌, map, length, take, drop, ℤ, sym, refl, ap, ◌∙◌, pow-suc, arith, w64, SFits, to_z, of_z}
use mir.Facts.{Fits-of_z, sfits_to_z}
use Rattle.std.proofs.lemmas.List.{append_assoc, length-append, length-take-le, length-drop, take_at, drop_at}
use Rattle.std.proofs.lemmas.Int.{to_z-of_z, of_z-to_z}
use Rattle.std.specs.Simd.{first_chunks}
use Rattle.packed.specs.Trees.{Fit, low, eight, eights}
use Rattle.packed.specs.Packing.{joined, integer, integers_in}

abbrev pub Bytes : List ℕ → Type 0
Bytes [] = Unit {0}
Bytes (b ∷ bs) = (b < 256) × Bytes bs

pub length-low : (count n : ℕ) → length (low count n) ≡ count
length-low zero n = refl
length-low (suc count) n = ap suc (length-low count (n / 256))

pub low-bytes : (count n : ℕ) → Bytes (low count n)
low-bytes zero n = tt
low-bytes (suc count) n = (omega arith, low-bytes count (n / 256))

pub joined-low : (count n : ℕ) → n < 256 ^ count → joined (low count n) ≡ n
joined-low zero n h = omega arith
joined-low (suc count) n h =
    let p = pow-suc 256 count in
    let less : n / 256 < 256 ^ count = omega arith in
    let e = joined-low count (n / 256) less in
    omega arith

pub low-joined : (bs : List ℕ) → Bytes bs → low (length bs) (joined bs) ≡ bs
low-joined [] q = refl
low-joined (b ∷ bs) q =
    let small = q.0 in
    let m = joined bs in
    let first : (b + 256 * joined bs) % 256 ≡ b = omega arith in
    let rest : (b + 256 * joined bs) / 256 ≡ joined bs = omega arith in
    λ i. first i ∷ (ap (low (length bs)) rest ∙ low-joined bs q.1) i

pub joined-below : (bs : List ℕ) → Bytes bs → joined bs < 256 ^ length bs
joined-below [] q = omega arith
joined-below (b ∷ bs) q = let h = joined-below bs q.1 in let p = pow-suc 256 (length bs) in let small = q.0 in omega arith

pub integer-eight : (z : ℤ) → SFits w64 z → integer (eight z) ≡ z
integer-eight z f = ap (to_z w64) (joined-low 8 (of_z w64 z) (Fits-of_z f).fits) ∙ to_z-of_z w64 z f

pub eight-integer : (bs : List ℕ) → length bs ≡ 8 → Bytes bs → eight (integer bs) ≡ bs
eight-integer bs e q =
    let below : joined bs < 2 ^ 64 = let h = joined-below bs q in let p = ap (λ n. 256 ^ n) e in omega arith in
    ap (low 8) (of_z-to_z w64 (joined bs) below) ∙ ap (λ n. low n (joined bs)) (sym e) ∙ low-joined bs q

pub fit-integer : (bs : List ℕ) → length bs ≡ 8 → Bytes bs → SFits w64 (integer bs)
fit-integer bs e q = let below : joined bs < 2 ^ 64 = let h = joined-below bs q in let p = ap (λ n. 256 ^ n) e in omega arith in sfits_to_z (record { fits = below })

-- lists of them
pub bytes_take : (n : ℕ) (bs : List ℕ) → Bytes bs → Bytes (take n bs)
bytes_take zero bs q = tt
bytes_take (suc n) [] q = tt
bytes_take (suc n) (b ∷ bs) q = (q.0, bytes_take n bs q.1)

pub bytes_drop : (n : ℕ) (bs : List ℕ) → Bytes bs → Bytes (drop n bs)
bytes_drop zero bs q = q
bytes_drop (suc n) [] q = tt
bytes_drop (suc n) (b ∷ bs) q = bytes_drop n bs q.1

pub bytes-append : (cs bs : List ℕ) → Bytes cs → Bytes bs → Bytes (cs ++ bs)
bytes-append [] bs p q = q
bytes-append (c ∷ cs) bs p q = (p.0, bytes-append cs bs p.1 q)

pub eights-bytes : (zs : List ℤ) → Bytes (eights zs)
eights-bytes [] = tt
eights-bytes (z ∷ zs) = bytes-append (eight z) (eights zs) (low-bytes 8 (of_z w64 z)) (eights-bytes zs)

pub length-eights : (zs : List ℤ) → length (eights zs) ≡ 8 * length zs
length-eights [] = refl
length-eights (z ∷ zs) = length-append (eight z) (eights zs) ∙ (let e = length-eights zs in omega arith)

pub length-integers : (k : ℕ) (bs : List ℕ) → length (integers_in k bs) ≡ k
length-integers zero bs = refl
length-integers (suc k) bs = ap suc (length-integers k (drop 8 bs))

-- the integers in the front of bytes, as chunks of eight have them
pub eights-front : (k n : ℕ) (bs : List ℕ) → k ≤ n → map integer (take k (first_chunks 8 n bs)) ≡ integers_in k bs
eights-front zero n bs h = refl
eights-front (suc k) zero bs h = absurd (omega arith)
eights-front (suc k) (suc n) bs h = ap (λ l. integer (take 8 bs) ∷ l) (eights-front k n (drop 8 bs) (omega arith))

pub fit-integers : (k : ℕ) (bs : List ℕ) → 8 * k ≤ length bs → Bytes bs → Fit (integers_in k bs)
fit-integers zero bs h q = tt
fit-integers (suc k) bs h q =
    (fit-integer (take 8 bs) (length-take-le 8 bs (omega arith)) (bytes_take 8 bs q), fit-integers k (drop 8 bs) (let l = length-drop 8 bs in omega arith) (bytes_drop 8 bs q))

take-nil : (n : ℕ) → take {A = ℕ} n [] ≡ []
take-nil zero = refl
take-nil (suc n) = refl

pub take-add : (m n : ℕ) (bs : List ℕ) → take (m + n) bs ≡ take m bs ++ take n (drop m bs)
take-add zero n bs = ap (λ k. take k bs) (omega arith)
take-add (suc m) n [] = take-nil (suc m + n) ∙ sym (take-nil n)
take-add (suc m) n (b ∷ bs) =
    let e : suc m + n ≡ suc (m + n) = omega arith in
    ap (λ k. take k (b ∷ bs)) e ∙ ap (λ l. b ∷ l) (take-add m n bs)

pub eights-integers : (k : ℕ) (bs : List ℕ) → 8 * k ≤ length bs → Bytes bs → eights (integers_in k bs) ≡ take (8 * k) bs
eights-integers zero bs h q = refl
eights-integers (suc k) bs h q =
    let l = length-drop 8 bs in
    let more : 8 + 8 * k ≡ 8 * suc k = omega arith in
    (λ i. eight-integer (take 8 bs) (length-take-le 8 bs (omega arith)) (bytes_take 8 bs q) i ++ eights-integers k (drop 8 bs) (omega arith) (bytes_drop 8 bs q) i)
    ∙ sym (take-add 8 (8 * k) bs) ∙ ap (λ n. take n bs) more

pub integers-eights : (zs : List ℤ) (rest : List ℕ) → Fit zs → integers_in (length zs) (eights zs ++ rest) ≡ zs
integers-eights [] rest f = refl
integers-eights (z ∷ zs) rest f =
    let e = append_assoc (eight z) (eights zs) rest in
    let long = length-low 8 (of_z w64 z) in
    let front : take 8 ((eight z ++ eights zs) ++ rest) ≡ eight z = ap (take 8) e ∙ take_at (eight z) (eights zs ++ rest) 8 long in
    let back : drop 8 ((eight z ++ eights zs) ++ rest) ≡ eights zs ++ rest = ap (drop 8) e ∙ drop_at (eight z) (eights zs ++ rest) 8 long in
    λ i. (ap integer front ∙ integer-eight z f.0) i ∷ (ap (integers_in (length zs)) back ∙ integers-eights zs rest f.1) i

-- the eight bytes and their number, written out as the machine's conversions have them
pub low-eight : (n : ℕ) → low 8 n ≡ (n % 256) ∷ (n / 256 % 256) ∷ (n / 65536 % 256) ∷ (n / 16777216 % 256) ∷ (n / 4294967296 % 256) ∷ (n / 1099511627776 % 256) ∷ (n / 281474976710656 % 256) ∷ (n / 72057594037927936 % 256) ∷ []
low-eight n =
    let e2 : n / 256 / 256 ≡ n / 65536 = omega arith in
    let e3 : n / 256 / 256 / 256 ≡ n / 16777216 = omega arith in
    let e4 : n / 256 / 256 / 256 / 256 ≡ n / 4294967296 = omega arith in
    let e5 : n / 256 / 256 / 256 / 256 / 256 ≡ n / 1099511627776 = omega arith in
    let e6 : n / 256 / 256 / 256 / 256 / 256 / 256 ≡ n / 281474976710656 = omega arith in
    let e7 : n / 256 / 256 / 256 / 256 / 256 / 256 / 256 ≡ n / 72057594037927936 = omega arith in
    λ i. (n % 256) ∷ (n / 256 % 256) ∷ (e2 i % 256) ∷ (e3 i % 256) ∷ (e4 i % 256) ∷ (e5 i % 256) ∷ (e6 i % 256) ∷ (e7 i % 256) ∷ []

pub eights-push : (zs : List ℤ) (z : ℤ) → eights (zs ++ z ∷ []) ≡ eights zs ++ eight z
eights-push [] z = refl
eights-push (x ∷ zs) z = ap (λ l. eight x ++ l) (eights-push zs z) ∙ sym (append_assoc (eight x) (eights zs) (eight z))
