-- Names entered in a row: one more at a time, and in two goes.
use Rattle.std.proofs.Common.{◌≡◌, ℕ, zero, suc, ◌+◌, ◌-◌, ◌<◌, List, get_or, set, Some, Option, sym, refl, ap, ◌∙◌, zero-add, arith}
use Rattle.std.proofs.lemmas.Bool.Decides.{nat_tests}
use Rattle.packed.specs.declared.constructor.Constructor.{Constructor}
use Rattle.checker.specs.declared.kind.Kind.{Kind}
use Rattle.checker.specs.declared.kind.Kind.TheVariants as kind
use Rattle.checker.specs.Contexts.{entered_names, fill, part, parts}

-- a turn of a loop that enters names: the table after one entry
pub names-turn : {X : Type 0} (xs ys whole : List X) (x : ℕ) (v : ℕ → X) (i n : ℕ) (k : X) → i < n → ys ≡ set xs (x + i) k → k ≡ v i → entered_names xs x v i (n - i) ≡ whole → entered_names ys x v (i + 1) (n - (i + 1)) ≡ whole
names-turn xs ys whole x v i n k h e same inv =
    let more : n - i ≡ suc (n - (i + 1)) = omega arith in
    ap (λ zs. entered_names zs x v (i + 1) (n - (i + 1))) (e ∙ ap (set xs (x + i)) same) ∙ sym (ap (entered_names xs x v i) more) ∙ inv

-- the same names, which stand for the same
names-same : {X : Type 0} (xs : List X) (x y : ℕ) (u v : ℕ → X) (i j n : ℕ) → x + i ≡ y + j → ((a b k : ℕ) → a ≡ i + k → b ≡ j + k → k < n → u a ≡ v b) → entered_names xs x u i n ≡ entered_names xs y v j n
names-same xs x y u v i j zero e same = refl
names-same xs x y u v i j (suc n) e same =
    ap (λ a. entered_names (set xs a (u i)) x u (i + 1) n) e
    ∙ ap (λ k. entered_names (set xs (y + j) k) x u (i + 1) n) (same i j 0 (omega arith) (omega arith) (omega arith))
    ∙ names-same (set xs (y + j) (v j)) x y u v (i + 1) (j + 1) n (omega arith) (λ a b k p q h. same a b (k + 1) (omega arith) (omega arith) (omega arith))

names-split : {X : Type 0} (xs : List X) (x : ℕ) (v : ℕ → X) (i n m all : ℕ) → all ≡ n + m → entered_names xs x v i all ≡ entered_names (entered_names xs x v i n) x v (i + n) m
names-split xs x v i zero m all e =
    let few : all ≡ m = omega arith in
    let here : i ≡ i + zero = omega arith in
    ap (entered_names xs x v i) few ∙ ap (λ a. entered_names xs x v a m) here
names-split xs x v i (suc n) m all e =
    let more : all ≡ suc (n + m) = omega arith in
    let next : i + 1 + n ≡ i + suc n = omega arith in
    ap (entered_names xs x v i) more
    ∙ names-split (set xs (x + i) (v i)) x v (i + 1) n m (n + m) refl
    ∙ ap (λ a. entered_names (entered_names xs x v i (suc n)) x v a m) next

-- n names in one go, and then m behind them
pub names-twice : {X : Type 0} (xs ys zs : List X) (x : ℕ) (u v w : ℕ → X) (n m : ℕ) → ys ≡ entered_names xs x u 0 n → zs ≡ entered_names ys (x + n) v 0 m → ((i : ℕ) → i < n → u i ≡ w i) → ((a k : ℕ) → a ≡ n + k → k < m → v k ≡ w a) → zs ≡ entered_names xs x w 0 (n + m)
names-twice xs ys zs x u v w n m e f first behind =
    f
    ∙ ap (λ ts. entered_names ts (x + n) v 0 m) (e ∙ names-same xs x x u w 0 0 n refl (λ a b k p q h. rw p (rw q (rw zero-add (first k h)))))
    ∙ names-same (entered_names xs x w 0 n) (x + n) x v w 0 (0 + n) m (omega arith) (λ a b k p q h. let r : a ≡ k = omega arith in rw r (behind b k (omega arith) h))
    ∙ sym (names-split xs x w 0 n m (n + m) refl)

-- the parts of a tree: its integers, and its subtrees behind them
pub parts-entered : (f : Constructor) (l x : ℕ) (xs ys zs : List (Option Kind)) → ys ≡ entered_names xs x (λ i. Some kind.Integer) 0 f.fields.integers → zs ≡ entered_names ys (x + f.fields.integers) (λ j. Some (kind.Tree (get_or f.fields.types j 0) (l + j))) 0 f.fields.subtrees → zs ≡ fill xs x (part f l) 0 (parts f)
parts-entered f l x xs ys zs e h =
    names-twice xs ys zs x _ _ (λ i. Some (part f l i)) f.fields.integers f.fields.subtrees e h
    (λ i p. grind (arith, nat_tests))
    (λ a k p q. let r : a - f.fields.integers ≡ k = omega arith in rw r (grind (arith, nat_tests)))
