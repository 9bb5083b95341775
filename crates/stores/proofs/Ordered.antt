-- Regions one behind another.
use Rattle.std.proofs.Common.{◌≡◌, ℕ, zero, suc, ◌+◌, ◌-◌, ◌*◌, ◌/◌, ◌%◌, ◌<◌, ◌≤◌, min, ◌≢◌, List, length, set, sym, refl, ap, ◌∙◌, ⊎_elim, add-zero, add-suc, add-one, arith}
use Rattle.std.proofs.Math.Nat.{add-mul, div-mul-le_self, le-div_iff_mul-le}
use Rattle.std.proofs.lemmas.Nat.{div-mul-add}
use Rattle.std.proofs.lemmas.List.{get_or-set_same, get_or-set_other}
use Rattle.std.proofs.lemmas.Bool.{cases_eq, cases_lt}
use Rattle.stores.specs.declared.regions.Region.{Region}
use Rattle.stores.specs.Regions.{region_of, first_of, room_of, grains_of, grains_before, InOrder}

-- the library's division that rounds up
pub grains-ceil : (n g : ℕ) → 1 ≤ g → n / g + min 1 (n % g) ≡ grains_of g n
grains-ceil n g some = ⊎_elim
    (λ (z : n % g ≡ 0).
    let e : n + (g - 1) ≡ n / g * g + (g - 1) = omega arith in
    let d = div-mul-add (n / g) g (g - 1) (omega arith) in
    rw e (omega arith))
    (λ (z : n % g ≢ 0).
    let m = add-mul (n / g) 1 g in
    let e : n + (g - 1) ≡ (n / g + 1) * g + (n % g - 1) = omega arith in
    let d = div-mul-add (n / g + 1) g (n % g - 1) (omega arith) in
    rw e (omega arith))
    (cases_eq (n % g) 0)

-- a cell lies in one of the grains of its region
pub cell-grain : (i n g : ℕ) → 1 ≤ g → i < n → i / g < grains_of g n
cell-grain i n g some h =
    let a = add-mul (i / g) 1 g in
    let b = div-mul-le_self i g in
    let c : (i / g + 1) * g ≤ n + (g - 1) = omega arith in
    let d = (le-div_iff_mul-le {k = g} {x = i / g + 1} {y = n + (g - 1)} some).1 c in
    omega arith

-- the grains before a region do not depend on those behind
pub before-set : (g : ℕ) (list : List Region) (at : ℕ) (x : Region) (k : ℕ) → k ≤ at → grains_before g (set list at x) k ≡ grains_before g list k
before-set g list at x zero h = refl
before-set g list at x (suc k) h =
    let e = before-set g list at x k (omega arith) in
    let o : room_of (set list at x) k ≡ room_of list k = ap (λ (r : Region). r.room) (get_or-set_other list at k x _ (λ e. omega arith)) in
    rw (e, o) refl

module _ (list : List Region) (count grain grains taken : ℕ) (o : InOrder list count grain grains taken) where
  before-rise : (k n : ℕ) → k + n ≤ count → grains_before grain list k ≤ grains_before grain list (k + n)
  before-rise k zero h = rw add-zero (omega arith)
  before-rise k (suc n) h =
      let a = before-rise k n (omega arith) in
      rw add-suc (omega arith)

  first-before : (r i s : ℕ) → r < s → s ≤ count → i < room_of list r → first_of list r + i / grain < grains_before grain list s
  first-before r i s h l m =
      let a = before-rise (suc r) (s - suc r) (omega arith) in
      let e : suc r + (s - suc r) ≡ s = omega arith in
      let b = rw e at a in
      let p = o.placed r (omega arith) in
      let c = cell-grain i (room_of list r) grain o.grained m in
      omega arith

  pub grain-taken : (r i : ℕ) → r < count → i < room_of list r → first_of list r + i / grain < taken
  grain-taken r i h l = let a = first-before r i count h (omega arith) l in let u = o.used in omega arith

  pub grains-apart : (k j r i : ℕ) → k < count → r < count → k ≢ r → j < room_of list k → i < room_of list r → first_of list k + j / grain ≢ first_of list r + i / grain
  grains-apart k j r i hk hr ne lj li = λ e. ⊎_elim
      (λ (b : k < r). let z = first-before k j r b (omega arith) lj in let p = o.placed r hr in omega arith)
      (λ (b : r ≤ k). let z = first-before r i k (omega arith) (omega arith) li in let p = o.placed k hk in omega arith)
      (cases_lt k r)

  -- one region more
  pub in-order-opened : (n : ℕ) → length list ≡ 32 → count < 32 → 1 ≤ n → n ≤ 32768 → taken + grains_of grain n ≤ grains →
      InOrder (set list count (record { first = taken; room = n })) (count + 1) grain grains (taken + grains_of grain n)
  in-order-opened n sized few low high fits =
      let new : Region = record { first = taken; room = n } in
      let here = get_or-set_same list count new (record { first = 0; room = 0 }) (omega arith) in
      let first-here : first_of (set list count new) count ≡ taken = ap (λ (r : Region). r.first) here in
      let room-here : room_of (set list count new) count ≡ n = ap (λ (r : Region). r.room) here in
      let old : (k : ℕ) → k < count → region_of (set list count new) k ≡ region_of list k = λ k h. get_or-set_other list count k new _ (λ e. omega arith) in
      let first-old : (k : ℕ) → k < count → first_of (set list count new) k ≡ first_of list k = λ k h. ap (λ (r : Region). r.first) (old k h) in
      let room-old : (k : ℕ) → k < count → room_of (set list count new) k ≡ room_of list k = λ k h. ap (λ (r : Region). r.room) (old k h) in
      let before : (k : ℕ) → k ≤ count → grains_before grain (set list count new) k ≡ grains_before grain list k = before-set grain list count new in
      record {
        grained = o.grained;
        few = omega arith;
        allowed = λ k h. ⊎_elim
            (λ (l : k < count). rw (room-old k l) (o.allowed k l))
            (λ (l : count ≤ k). let e : k ≡ count = omega arith in rw (e, room-here) (low, high))
            (cases_lt k count);
        placed = λ k h. ⊎_elim
            (λ (l : k < count). first-old k l ∙ o.placed k l ∙ sym (before k (omega arith)))
            (λ (l : count ≤ k). let e : k ≡ count = omega arith in rw e (first-here ∙ o.used ∙ sym (before count (omega arith))))
            (cases_lt k count);
        used = rw (add-one, room-here, before count (omega arith)) (ap (λ (t : ℕ). t + grains_of grain n) o.used);
        within = fits;
      }
