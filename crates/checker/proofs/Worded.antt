-- The conditions of a row in the words of the rules are those that the check computes.
use Rattle.std.proofs.Common.{◌≡◌, ℕ, zero, suc, ◌+◌, ◌<◌, ◌≤◌, Bool, true, false, cond, ◌&&◌, ◌||◌, eqb, List, [], ◌∷◌, get_or, Some, None, Option, sym, refl, ap, ◌∙◌, subst, inl, inr, arith}
use Rattle.std.specs.List.{slice_get}
use Rattle.std.proofs.lemmas.Bool.{cases_eq}
use Rattle.std.proofs.lemmas.Bool.{eq-eqb, eqb-true}
use Rattle.std.specs.Cmp.Derive.{both_true}
use Rattle.packed.specs.declared.constructor.Constructor.{Constructor}
use Rattle.packed.specs.Forms.{either}
use Rattle.table.specs.declared.row.Row.{Row}
use Rattle.table.specs.declared.row.Row.TheVariants as row
use Rattle.checker.specs.declared.kind.Kind.{Kind}
use Rattle.checker.specs.declared.kind.Kind.TheVariants as kind
use Rattle.checker.specs.declared.context.Context.{Context}
use Rattle.checker.specs.declared.context.Location.{Location}
use Rattle.checker.specs.declared.context.Rule.{Rule}
use Rattle.checker.specs.declared.context.Rule.TheVariants as rule
use Rattle.checker.specs.declared.context.Frontier.{Frontier}
use Rattle.checker.specs.declared.context.Frontier.TheVariants as frontier
use Rattle.checker.specs.Contexts.{at, used, fresh, is_in, all_fresh, kind_of, same_kind, is_nothing, is_at, frontier_at, parts}
use Rattle.checker.specs.Conditions.{Program, has_kind, all_used, all_have, four_integers, is_tree, any_tree, same_rule, place_of, has_rule, ruled_place, chained, branch_form, branch_next, covers, takes_apart, as_tree, construct_names, construct_kinds, construct_places, call_names, call_kinds, call_places, names, kinds, rules, places}
use Rattle.checker.specs.Asking.{Used, Free, In, Has, integer, tree, Chain, ended, longer, Covered, no_more, of_another, of_it, IntegerPart, AllUsed, AllFree, ConstructNamed, ConstructKinded, ConstructPlaced, CallNamed, CallKinded, CallPlaced, BranchNamed, Named, Kinded, Fronted, Placed, Worded}
use Rattle.checker.proofs.Inversions.{true-false, some-none, and-true}

-- A truth value and what it says.
record Means (b : Bool) (A : Type 0) : Type 0 where
  to : b ≡ true → A
  from : A → b ≡ true

nothing : Means true (Unit {0})
nothing = record { to = λ h. tt; from = λ a. refl }

both : {a b : Bool} {A B : Type 0} → Means a A → Means b B → Means (a && b) (A × B)
both {a} {b} m n = record { to = λ h. let p = and-true a b h in (m.to p.0, n.to p.1); from = λ p. both_true (m.from p.0) (n.from p.1) }

reworded : {b : Bool} {A B : Type 0} → Means b A → (A → B) → (B → A) → Means b B
reworded m f g = record { to = λ h. f (m.to h); from = λ x. m.from (g x) }

-- what is asked of trees only
differs : (s t : ℕ) → (s ≡ t → ⊥) → eqb s t ≡ false
differs s t h = go (eqb s t) refl
  where
    go : (b : Bool) → eqb s t ≡ b → eqb s t ≡ false
    go true e = absurd (h (eqb-true s t e))
    go false e = e

same_not : (s t : ℕ) → eqb s t ≡ false → s ≡ t → ⊥
same_not s t h e = true-false (sym (eq-eqb t t refl) ∙ subst (λ m. eqb m t ≡ false) e h)

or_right : (a b : Bool) → a ≡ false → (a || b) ≡ true → b ≡ true
or_right true b e h = absurd (true-false e)
or_right false b e h = h

for-tree : (t : ℕ) {b : Bool} {A : Type 0} → Means b A → Means (eqb t 254 || b) ((t ≡ 254 → ⊥) → A)
for-tree t {b} {A} m = record { to = λ h d. m.to (or_right (eqb t 254) b (differs t 254 d) h); from = λ g. go (eqb t 254) refl g }
  where
    go : (e : Bool) → eqb t 254 ≡ e → ((t ≡ 254 → ⊥) → A) → (e || b) ≡ true
    go true e g = refl
    go false e g = m.from (g (same_not t 254 e))

-- what is asked of an entry, if it is there; of an entry that is there
if-there : {X : Type 0} (o : Option X) (asks : X → Bool) (A : X → Type 0) → ((x : X) → Means (asks x) (A x)) → Means (either o true asks) ((x : X) → o ≡ Some x → A x)
if-there o asks A m = record { to = λ h x e. (m x).to (subst (λ p. either p true asks ≡ true) e h); from = λ g. go o g }
  where
    go : (p : Option _) → ((x : _) → p ≡ Some x → A x) → either p true asks ≡ true
    go None g = refl
    go (Some x) g = (m x).from (g x refl)

there : {X : Type 0} (o : Option X) (asks : X → Bool) (A : X → Type 0) → ((x : X) → Means (asks x) (A x)) → Means (either o false asks) ((x : X) × (o ≡ Some x) × A x)
there None asks A m = record { to = λ h. absurd (true-false (sym h)); from = λ p. absurd (some-none (sym p.1)) }
there (Some y) asks A m = record { to = λ h. (y, refl, (m y).to h); from = λ p. subst (λ q. either q false asks ≡ true) (sym p.1) ((m p.0).from p.2) }

-- Names.
is-used : {X : Type 0} (xs : List (Option X)) (x : ℕ) → Means (used xs x) (Used xs x)
is-used {X} xs x = go (at xs x)
  where
    go : (o : Option X) → Means (either o false (λ y. true)) ((v : X) × (o ≡ Some v))
    go None = record { to = λ h. absurd (true-false (sym h)); from = λ p. absurd (some-none (sym p.1)) }
    go (Some v) = record { to = λ h. (v, refl); from = λ p. refl }

is_free : {X : Type 0} (xs : List (Option X)) (x : ℕ) → Means (fresh xs x) (Free xs x)
is_free {X} xs x = go (slice_get xs x)
  where
    go : (o : Option (Option X)) → Means (either o false (λ p. either p true (λ y. false))) (o ≡ Some None)
    go None = record { to = λ h. absurd (true-false (sym h)); from = λ p. absurd (some-none (sym p)) }
    go (Some None) = record { to = λ h. refl; from = λ p. refl }
    go (Some (Some v)) = record { to = λ h. absurd (true-false (sym h)); from = λ p. cc }

is-in : (xs : List Bool) (l : ℕ) → Means (is_in xs l) (In xs l)
is-in xs l = go (slice_get xs l)
  where
    go : (o : Option Bool) → Means (either o false (λ b. b)) (o ≡ Some true)
    go None = record { to = λ h. absurd (true-false (sym h)); from = λ p. absurd (some-none (sym p)) }
    go (Some true) = record { to = λ h. refl; from = λ p. refl }
    go (Some false) = record { to = λ h. absurd (true-false (sym h)); from = λ p. cc }

-- Loops: `all i n` asks a test of n numbers from i on.
module _ (all : ℕ → ℕ → Bool) (test : ℕ → Bool) (A : ℕ → Type 0) (base : (i : ℕ) → all i 0 ≡ true) (step : (i n : ℕ) → all i (suc n) ≡ (test i && all (i + 1) n)) (means : (i : ℕ) → Means (test i) (A i)) where
  range-to : (i n : ℕ) → all i n ≡ true → (q : ℕ) → i ≤ q → q < i + n → A q
  range-to i zero h q lo hi = absurd (omega arith)
  range-to i (suc n) h q lo hi =
      let p = and-true (test i) (all (i + 1) n) (sym (step i n) ∙ h) in
      elim (cases_eq q i) [
        | inl e ↦ subst A (sym e) ((means i).to p.0)
        | inr d ↦ range-to (i + 1) n p.1 q (omega arith) (omega arith)
      ]

  range-from : (i n : ℕ) → ((q : ℕ) → i ≤ q → q < i + n → A q) → all i n ≡ true
  range-from i zero g = base i
  range-from i (suc n) g = step i n ∙ both_true ((means i).from (g i (omega arith) (omega arith))) (range-from (i + 1) n (λ q lo hi. g q (omega arith) (omega arith)))

  range : (n : ℕ) → Means (all 0 n) ((q : ℕ) → q < n → A q)
  range n = record { to = λ h q lt. range-to 0 n h q (omega arith) (omega arith); from = λ g. range-from 0 n (λ q lo hi. g q (omega arith)) }

all-used : (c : Context) (vs : List ℕ) (n : ℕ) → Means (all_used c vs 0 n) ((i : ℕ) → i < n → Used c.variables (get_or vs i 0))
all-used c vs n = range (λ i m. all_used c vs i m) (λ i. used c.variables (get_or vs i 0)) (λ i. Used c.variables (get_or vs i 0)) (λ i. refl) (λ i m. refl) (λ i. is-used c.variables (get_or vs i 0)) n

all-free : {X : Type 0} (xs : List (Option X)) (x n : ℕ) → Means (all_fresh xs x 0 n) ((i : ℕ) → i < n → Free xs (x + i))
all-free xs x n = range (λ i m. all_fresh xs x i m) (λ i. fresh xs (x + i)) (λ i. Free xs (x + i)) (λ i. refl) (λ i m. refl) (λ i. is_free xs (x + i)) n

-- Kinds.
integer-kind : (t : ℕ) → same_kind kind.Integer (kind_of t 0) ≡ true → t ≡ 254
integer-kind t h = go (eqb t 254) refl h
  where
    go : (b : Bool) → eqb t 254 ≡ b → same_kind kind.Integer (cond b kind.Integer (kind.Tree t 0)) ≡ true → t ≡ 254
    go true e q = eqb-true t 254 e
    go false e q = absurd (true-false (sym q))

tree-kind : (s l t : ℕ) → same_kind (kind.Tree s l) (kind_of t 0) ≡ true → (s ≡ t) × (t ≡ 254 → ⊥)
tree-kind s l t h = go (eqb t 254) refl h
  where
    go : (b : Bool) → eqb t 254 ≡ b → same_kind (kind.Tree s l) (cond b kind.Integer (kind.Tree t 0)) ≡ true → (s ≡ t) × (t ≡ 254 → ⊥)
    go true e q = absurd (true-false (sym q))
    go false e q = (eqb-true s t q, same_not t 254 e)

kind-tree : (l t : ℕ) → (t ≡ 254 → ⊥) → same_kind (kind.Tree t l) (kind_of t 0) ≡ true
kind-tree l t d = subst (λ b. same_kind (kind.Tree t l) (cond b kind.Integer (kind.Tree t 0)) ≡ true) (sym (differs t 254 d)) (eq-eqb t t refl)

has-to : (o : Option Kind) (t : ℕ) → has_kind o t ≡ true → Has o t
has-to None t h = absurd (true-false (sym h))
has-to (Some kind.Integer) t h = integer refl (integer-kind t h)
has-to (Some (kind.Tree s l)) t h = let p = tree-kind s l t h in tree (ap (λ m. Some (kind.Tree m l)) p.0) p.1

has-from : (o : Option Kind) (t : ℕ) → Has o t → has_kind o t ≡ true
has-from o t (integer e f) = ap (λ p. has_kind p t) e ∙ ap (λ m. same_kind kind.Integer (kind_of m 0)) f
has-from o t (tree {l} e d) = ap (λ p. has_kind p t) e ∙ kind-tree l t d

has-kind : (o : Option Kind) (t : ℕ) → Means (has_kind o t) (Has o t)
has-kind o t = record { to = has-to o t; from = has-from o t }

is-integer : (o : Option Kind) → Means (has_kind o 254) (o ≡ Some kind.Integer)
is-integer None = record { to = λ h. absurd (true-false (sym h)); from = λ p. absurd (some-none (sym p)) }
is-integer (Some kind.Integer) = record { to = λ h. refl; from = λ p. refl }
is-integer (Some (kind.Tree t l)) = record { to = λ h. absurd (true-false (sym h)); from = λ p. cc }

have-all : (c : Context) (vs : List ℕ) (i : ℕ) (ts : List ℕ) (n : ℕ) → Means (all_have c vs i ts 0 n) ((j : ℕ) → j < n → Has (at c.variables (get_or vs (i + j) 0)) (get_or ts j 0))
have-all c vs i ts n = range (λ j m. all_have c vs i ts j m) (λ j. has_kind (at c.variables (get_or vs (i + j) 0)) (get_or ts j 0)) (λ j. Has (at c.variables (get_or vs (i + j) 0)) (get_or ts j 0)) (λ j. refl) (λ j m. refl) (λ j. has-kind (at c.variables (get_or vs (i + j) 0)) (get_or ts j 0)) n

from_first : (c : Context) (vs : List ℕ) (ts : List ℕ) (n : ℕ) → Means (all_have c vs 0 ts 0 n) ((j : ℕ) → j < n → Has (at c.variables (get_or vs j 0)) (get_or ts j 0))
from_first c vs ts n =
    reworded (have-all c vs 0 ts n)
    (λ g j lt. let e : 0 + j ≡ j = omega arith in subst (λ m. Has (at c.variables (get_or vs m 0)) (get_or ts j 0)) e (g j lt))
    (λ g j lt. let e : j ≡ 0 + j = omega arith in subst (λ m. Has (at c.variables (get_or vs m 0)) (get_or ts j 0)) e (g j lt))

-- integer i of a constructor
few : (o : Option Kind) (i : ℕ) → i < 4 → Means (has_kind o 254) (IntegerPart i o)
few o i lt = reworded (is-integer o) (λ e. ((λ h. e), (λ h. absurd (omega arith)))) (λ p. p.0 lt)

integer-part : (o : Option Kind) (i : ℕ) → Means (has_kind o (get_or four_integers i 0)) (IntegerPart i o)
integer-part o zero = few o 0 (omega arith)
integer-part o (suc zero) = few o 1 (omega arith)
integer-part o (suc (suc zero)) = few o 2 (omega arith)
integer-part o (suc (suc (suc zero))) = few o 3 (omega arith)
integer-part o (suc (suc (suc (suc i)))) = reworded (has-kind o 0) (λ h. ((λ lt. absurd (omega arith)), (λ ge. h))) (λ p. p.1 (omega arith))

integer-parts : (c : Context) (vs : List ℕ) (n : ℕ) → Means (all_have c vs 0 four_integers 0 n) ((i : ℕ) → i < n → IntegerPart i (at c.variables (get_or vs i 0)))
integer-parts c vs n =
    reworded (from_first c vs four_integers n)
    (λ g i lt. let m = integer-part (at c.variables (get_or vs i 0)) i in m.to ((has-kind (at c.variables (get_or vs i 0)) (get_or four_integers i 0)).from (g i lt)))
    (λ g i lt. let m = integer-part (at c.variables (get_or vs i 0)) i in (has-kind (at c.variables (get_or vs i 0)) (get_or four_integers i 0)).to (m.from (g i lt)))

two-integers : (c : Context) (x y : ℕ) → Means (has_kind (at c.variables x) 254 && has_kind (at c.variables y) 254) ((at c.variables x ≡ Some kind.Integer) × (at c.variables y ≡ Some kind.Integer))
two-integers c x y = both (is-integer (at c.variables x)) (is-integer (at c.variables y))

-- Frontiers.
is-nothing : (o : Option Frontier) → Means (is_nothing o) (o ≡ Some frontier.Nothing)
is-nothing None = record { to = λ h. absurd (true-false (sym h)); from = λ p. absurd (some-none (sym p)) }
is-nothing (Some frontier.Nothing) = record { to = λ h. refl; from = λ p. refl }
is-nothing (Some (frontier.At l)) = record { to = λ h. absurd (true-false (sym h)); from = λ p. cc }
is-nothing (Some frontier.Shut) = record { to = λ h. absurd (true-false (sym h)); from = λ p. cc }

at-to : (l : ℕ) (o : Option Frontier) → is_at l o ≡ true → o ≡ Some (frontier.At l)
at-to l None h = absurd (true-false (sym h))
at-to l (Some frontier.Nothing) h = absurd (true-false (sym h))
at-to l (Some (frontier.At m)) h = ap (λ k. Some (frontier.At k)) (eqb-true m l h)
at-to l (Some frontier.Shut) h = absurd (true-false (sym h))

is-at : (l : ℕ) (o : Option Frontier) → Means (is_at l o) (o ≡ Some (frontier.At l))
is-at l o = record { to = at-to l o; from = λ p. ap (is_at l) p ∙ eq-eqb l l refl }

-- a variable in scope that is a tree at a location
tree-to : (t m : ℕ) (o : Option Kind) → is_tree t m o ≡ true → o ≡ Some (kind.Tree t m)
tree-to t m None h = absurd (true-false (sym h))
tree-to t m (Some kind.Integer) h = absurd (true-false (sym h))
tree-to t m (Some (kind.Tree s l)) h =
    let p = and-true (eqb s t) (eqb l m) h in
    let a = eqb-true s t p.0 in
    let b = eqb-true l m p.1 in
    cc

tree-from : (t m : ℕ) (o : Option Kind) → o ≡ Some (kind.Tree t m) → is_tree t m o ≡ true
tree-from t m o e = ap (is_tree t m) e ∙ both_true (eq-eqb t t refl) (eq-eqb m m refl)

or-true : (a b : Bool) → b ≡ true → (a || b) ≡ true
or-true true b h = refl
or-true false b h = h

any-to : (t m : ℕ) (ks : List (Option Kind)) → any_tree t m ks ≡ true → (x : ℕ) × (at ks x ≡ Some (kind.Tree t m))
any-to t m [] h = absurd (true-false (sym h))
any-to t m (k ∷ ks) h = go (is_tree t m k) refl h (λ q. any-to t m ks q)
  where
    go : (b : Bool) → is_tree t m k ≡ b → (b || any_tree t m ks) ≡ true → (any_tree t m ks ≡ true → (x : ℕ) × (at ks x ≡ Some (kind.Tree t m))) → (x : ℕ) × (at (k ∷ ks) x ≡ Some (kind.Tree t m))
    go true e q more = (0, tree-to t m k e)
    go false e q more = let p = more q in (suc p.0, p.1)

any-from : (t m : ℕ) (ks : List (Option Kind)) (x : ℕ) → at ks x ≡ Some (kind.Tree t m) → any_tree t m ks ≡ true
any-from t m [] x e = absurd (some-none (sym e))
any-from t m (k ∷ ks) zero e = ap (λ b. b || any_tree t m ks) (tree-from t m k e)
any-from t m (k ∷ ks) (suc x) e = or-true (is_tree t m k) (any_tree t m ks) (any-from t m ks x e)

any-tree : (t m : ℕ) (ks : List (Option Kind)) → Means (any_tree t m ks) ((x : ℕ) × (at ks x ≡ Some (kind.Tree t m)))
any-tree t m ks = record { to = any-to t m ks; from = λ p. any-from t m ks p.0 p.1 }

-- Trees one behind the other.
rule-to : (r s : Rule) → same_rule r s ≡ true → r ≡ s
rule-to rule.Free rule.Free h = refl
rule-to rule.Free rule.Start h = absurd (true-false (sym h))
rule-to rule.Free (rule.Past m k) h = absurd (true-false (sym h))
rule-to rule.Free (rule.After m) h = absurd (true-false (sym h))
rule-to rule.Start rule.Free h = absurd (true-false (sym h))
rule-to rule.Start rule.Start h = refl
rule-to rule.Start (rule.Past m k) h = absurd (true-false (sym h))
rule-to rule.Start (rule.After m) h = absurd (true-false (sym h))
rule-to (rule.Past l j) rule.Free h = absurd (true-false (sym h))
rule-to (rule.Past l j) rule.Start h = absurd (true-false (sym h))
rule-to (rule.Past l j) (rule.Past m k) h =
    let p = and-true (eqb l m) (eqb j k) h in
    let a = eqb-true l m p.0 in
    let b = eqb-true j k p.1 in
    cc
rule-to (rule.Past l j) (rule.After m) h = absurd (true-false (sym h))
rule-to (rule.After l) rule.Free h = absurd (true-false (sym h))
rule-to (rule.After l) rule.Start h = absurd (true-false (sym h))
rule-to (rule.After l) (rule.Past m k) h = absurd (true-false (sym h))
rule-to (rule.After l) (rule.After m) h = ap rule.After (eqb-true l m h)

rule-self : (r : Rule) → same_rule r r ≡ true
rule-self rule.Free = refl
rule-self rule.Start = refl
rule-self (rule.Past l j) = both_true (eq-eqb l l refl) (eq-eqb j j refl)
rule-self (rule.After l) = eq-eqb l l refl

either-some : {A B : Type 0} (o : Option A) (f : A → Option B) (y : B) → either o None f ≡ Some y → (x : A) × (o ≡ Some x) × (f x ≡ Some y)
either-some None f y h = absurd (some-none (sym h))
either-some (Some x) f y h = (x, refl, h)

place-to : (k : Option Kind) (m : ℕ) → place_of k ≡ Some m → (t : ℕ) × (k ≡ Some (kind.Tree t m))
place-to None m h = absurd (some-none (sym h))
place-to (Some kind.Integer) m h = absurd (some-none (sym h))
place-to (Some (kind.Tree t l)) m h = let e : l ≡ m = cc in (t, ap (λ j. Some (kind.Tree t j)) e)

cond-some : (b : Bool) (x y : ℕ) → cond b (Some x) None ≡ Some y → (b ≡ true) × (x ≡ y)
cond-some true x y h = (refl, cc)
cond-some false x y h = absurd (some-none (sym h))

has-rule : (c : Context) (m : ℕ) (r : Rule) → Means (has_rule c m r) ((p : Location) × (at c.locations m ≡ Some p) × (p.rule ≡ r))
has-rule c m r = there (at c.locations m) (λ p. same_rule p.rule r) (λ p. p.rule ≡ r) (λ p. record { to = rule-to p.rule r; from = λ e. subst (λ s. same_rule p.rule s ≡ true) e (rule-self p.rule) })

ruled-to : (c : Context) (r : Rule) (k : Option Kind) (m : ℕ) → ruled_place c r k ≡ Some m → ((t : ℕ) × (k ≡ Some (kind.Tree t m))) × (has_rule c m r ≡ true)
ruled-to c r k m h =
    let p = either-some (place_of k) (λ j. cond (has_rule c j r) (Some j) None) m h in
    let q = cond-some (has_rule c p.0 r) p.0 m p.2 in
    (place-to k m (p.1 ∙ ap Some q.1), subst (λ j. has_rule c j r ≡ true) q.1 q.0)

ruled-from : (c : Context) (r : Rule) (k : Option Kind) (t m : ℕ) → k ≡ Some (kind.Tree t m) → has_rule c m r ≡ true → ruled_place c r k ≡ Some m
ruled-from c r k t m e h = ap (λ o. ruled_place c r o) e ∙ ap (λ b. cond b (Some m) None) h

module _ (c : Context) (vs : List ℕ) where
  chain-to : (r : Rule) (first i n last : ℕ) → chained c r first vs i n ≡ Some last → Chain c vs r first i n last
  chain-to r first i zero last h = let e : first ≡ last = cc in subst (λ m. Chain c vs r first i 0 m) e ended
  chain-to r first i (suc n) last h =
      let p = either-some (ruled_place c r (at c.variables (get_or vs i 0))) (λ m. chained c (rule.After m) m vs (i + 1) n) last h in
      let q = ruled-to c r (at c.variables (get_or vs i 0)) p.0 p.1 in
      let s = (has-rule c p.0 r).to q.1 in
      longer q.0.1 s.1 s.2 (chain-to (rule.After p.0) p.0 (i + 1) n last p.2)

  chain-from : {r : Rule} {first i n last : ℕ} → Chain c vs r first i n last → chained c r first vs i n ≡ Some last
  chain-from ended = refl
  chain-from (longer {r} {first} {i} {n} {last} {t} {m} {p} e f g more) =
      ap (λ o. either o None (λ j. chained c (rule.After j) j vs (i + 1) n)) (ruled-from c r (at c.variables (get_or vs i 0)) t m e ((has-rule c m r).from (p, f, g))) ∙ chain-from more

-- Branches.
branch_to : (o : Option Row) (i : ℕ) → branch_form o ≡ Some i → (x : ℕ) × (l : ℕ) × (o ≡ Some (row.Branch i x l (branch_next o)))
branch_to None i h = absurd (some-none (sym h))
branch_to (Some (row.Variable x)) i h = absurd (some-none (sym h))
branch_to (Some (row.Number value)) i h = absurd (some-none (sym h))
branch_to (Some (row.Sum x y)) i h = absurd (some-none (sym h))
branch_to (Some (row.Difference x y)) i h = absurd (some-none (sym h))
branch_to (Some (row.Region r room)) i h = absurd (some-none (sym h))
branch_to (Some (row.Start l r)) i h = absurd (some-none (sym h))
branch_to (Some (row.Past l m k)) i h = absurd (some-none (sym h))
branch_to (Some (row.After l m t)) i h = absurd (some-none (sym h))
branch_to (Some (row.Construct form l v0 v1 v2 v3 v4 v5 v6 v7)) i h = absurd (some-none (sym h))
branch_to (Some (row.Let x k l body)) i h = absurd (some-none (sym h))
branch_to (Some (row.Test x y other)) i h = absurd (some-none (sym h))
branch_to (Some (row.Call f l v0 v1 v2 v3)) i h = absurd (some-none (sym h))
branch_to (Some (row.Case x)) i h = absurd (some-none (sym h))
branch_to (Some (row.Branch form x0 l0 next)) i h = let e : form ≡ i = cc in (x0, l0, ap (λ j. Some (row.Branch j x0 l0 next)) e)

is-form : (o : Option ℕ) (i : ℕ) → Means (either o false (λ k. eqb k i)) (o ≡ Some i)
is-form None i = record { to = λ h. absurd (true-false (sym h)); from = λ p. absurd (some-none (sym p)) }
is-form (Some k) i = record { to = λ h. ap Some (eqb-true k i h); from = λ p. let e : k ≡ i = cc in subst (λ j. eqb k j ≡ true) e (eq-eqb k k refl) }

module _ (rows : List Row) (t : ℕ) where
  covered-to : (i : ℕ) (fs : List Constructor) (b : ℕ) → covers rows t i fs b ≡ true → Covered rows t i fs b
  covered-to i [] b h = no_more (eqb-true b 0 h)
  covered-to i (f ∷ fs) b h = go (eqb f.of t) refl h (covered-to (i + 1) fs)
    where
      branched : f.of ≡ t → (y : Bool) → either (branch_form (slice_get rows b)) false (λ k. eqb k i) ≡ y → either (cond y (Some (branch_next (slice_get rows b))) None) false (covers rows t (i + 1) fs) ≡ true → ((m : ℕ) → covers rows t (i + 1) fs m ≡ true → Covered rows t (i + 1) fs m) → Covered rows t i (f ∷ fs) b
      branched same true e q more =
          let p = branch_to (slice_get rows b) i ((is-form (branch_form (slice_get rows b)) i).to e) in
          of_it same p.2 (more (branch_next (slice_get rows b)) q)
      branched same false e q more = absurd (true-false (sym q))

      go : (y : Bool) → eqb f.of t ≡ y → either (cond y (cond (either (branch_form (slice_get rows b)) false (λ k. eqb k i)) (Some (branch_next (slice_get rows b))) None) (Some b)) false (covers rows t (i + 1) fs) ≡ true → ((m : ℕ) → covers rows t (i + 1) fs m ≡ true → Covered rows t (i + 1) fs m) → Covered rows t i (f ∷ fs) b
      go true e q more = branched (eqb-true f.of t e) (either (branch_form (slice_get rows b)) false (λ k. eqb k i)) refl q more
      go false e q more = of_another (same_not f.of t e) (more b q)

  covered-from : {i : ℕ} {fs : List Constructor} {b : ℕ} → Covered rows t i fs b → covers rows t i fs b ≡ true
  covered-from (no_more e) = rw e
  covered-from (of_another {i} {b} {f} {fs} d more) =
      ap (λ y. either (cond y (cond (either (branch_form (slice_get rows b)) false (λ k. eqb k i)) (Some (branch_next (slice_get rows b))) None) (Some b)) false (covers rows t (i + 1) fs)) (differs f.of t d) ∙ covered-from more
  covered-from (of_it {i} {b} {x} {l} {m} {f} {fs} e is more) =
      ap (λ y. either (cond y (cond (either (branch_form (slice_get rows b)) false (λ k. eqb k i)) (Some (branch_next (slice_get rows b))) None) (Some b)) false (covers rows t (i + 1) fs)) (subst (λ u. eqb f.of u ≡ true) e (eq-eqb f.of f.of refl))
      ∙ ap (λ o. either (cond (either (branch_form o) false (λ k. eqb k i)) (Some (branch_next o)) None) false (covers rows t (i + 1) fs)) is
      ∙ ap (λ y. either (cond y (Some m) None) false (covers rows t (i + 1) fs)) (eq-eqb i i refl)
      ∙ covered-from more

apart : (P : Program) (n : ℕ) (o : Option Kind) → Means (takes_apart P n o) ((t : ℕ) × (l : ℕ) × (o ≡ Some (kind.Tree t l)) × Covered P.rows t 0 P.forms (n + 1))
apart P n None = record { to = λ h. absurd (true-false (sym h)); from = λ p. absurd (some-none (sym p.2)) }
apart P n (Some kind.Integer) = record { to = λ h. absurd (true-false (sym h)); from = λ p. let e = p.2 in cc }
apart P n (Some (kind.Tree t l)) = record {
  to = λ h. (t, l, refl, covered-to P.rows t 0 P.forms (n + 1) h);
  from = λ p. let e = p.2 in let same : p.0 ≡ t = cc in subst (λ s. covers P.rows s 0 P.forms (n + 1) ≡ true) same (covered-from P.rows p.0 p.3);
}

-- One lemma for each condition and kind of row.
module _ (P : Program) (c : Context) where
  abbrev Eight : ℕ → ℕ → ℕ → ℕ → ℕ → ℕ → ℕ → ℕ → List ℕ
  Eight v0 v1 v2 v3 v4 v5 v6 v7 = v0 ∷ v1 ∷ v2 ∷ v3 ∷ v4 ∷ v5 ∷ v6 ∷ v7 ∷ []

  construct-named : (form l : ℕ) (vs : List ℕ) → Means (construct_names P c form l vs) (ConstructNamed P c form l vs)
  construct-named form l vs = both (is-used c.locations l) (if-there (slice_get P.forms form) (λ f. all_used c vs 0 (parts f)) (λ f. AllUsed c vs (parts f)) (λ f. all-used c vs (parts f)))

  construct-kinded : (form : ℕ) (vs : List ℕ) → Means (construct_kinds P c form vs) (ConstructKinded P c form vs)
  construct-kinded form vs =
      there (slice_get P.forms form) (λ f. all_have c vs 0 four_integers 0 f.fields.integers && all_have c vs f.fields.integers f.fields.types 0 f.fields.subtrees)
      (λ f. ((i : ℕ) → i < f.fields.integers → IntegerPart i (at c.variables (get_or vs i 0))) × ((j : ℕ) → j < f.fields.subtrees → Has (at c.variables (get_or vs (f.fields.integers + j) 0)) (get_or f.fields.types j 0)))
      (λ f. both (integer-parts c vs f.fields.integers) (have-all c vs f.fields.integers f.fields.types f.fields.subtrees))

  chain-placed : (l : ℕ) (vs : List ℕ) (f : Constructor) → Means (either (chained c (rule.Past l f.fields.integers) l vs f.fields.integers f.fields.subtrees) false (λ m. is_at m (frontier_at c l))) ((last : ℕ) × Chain c vs (rule.Past l f.fields.integers) l f.fields.integers f.fields.subtrees last × (frontier_at c l ≡ Some (frontier.At last)))
  chain-placed l vs f =
      reworded (there (chained c (rule.Past l f.fields.integers) l vs f.fields.integers f.fields.subtrees) (λ m. is_at m (frontier_at c l)) (λ m. frontier_at c l ≡ Some (frontier.At m)) (λ m. is-at m (frontier_at c l)))
      (λ p. (p.0, chain-to c vs (rule.Past l f.fields.integers) l f.fields.integers f.fields.subtrees p.0 p.1, p.2))
      (λ p. (p.0, chain-from c vs p.1, p.2))

  construct-placed : (form l : ℕ) (vs : List ℕ) → Means (construct_places P c form l vs) (ConstructPlaced P c form l vs)
  construct-placed form l vs =
      both (is-in c.progress.unwritten l)
      (there (slice_get P.forms form) (λ f. either (chained c (rule.Past l f.fields.integers) l vs f.fields.integers f.fields.subtrees) false (λ m. is_at m (frontier_at c l)))
      (λ f. (last : ℕ) × Chain c vs (rule.Past l f.fields.integers) l f.fields.integers f.fields.subtrees last × (frontier_at c l ≡ Some (frontier.At last)))
      (chain-placed l vs))

  call-named : (g l : ℕ) (vs : List ℕ) → Means (call_names P c g l vs) (CallNamed P c g l vs)
  call-named g l vs =
      if-there (slice_get P.functions g) (λ f. all_used c vs 0 f.parameters && as_tree P c f.result (used c.locations l))
      (λ f. AllUsed c vs f.parameters × ((f.result ≡ 254 → ⊥) → Used c.locations l))
      (λ f. both (all-used c vs f.parameters) (for-tree f.result (is-used c.locations l)))

  call-kinded : (g : ℕ) (vs : List ℕ) → Means (call_kinds P c g vs) (CallKinded P c g vs)
  call-kinded g vs =
      there (slice_get P.functions g) (λ f. all_have c vs 0 f.kinds 0 f.parameters) (λ f. (j : ℕ) → j < f.parameters → Has (at c.variables (get_or vs j 0)) (get_or f.kinds j 0))
      (λ f. from_first c vs f.kinds f.parameters)

  call-placed : (g l : ℕ) → Means (call_places P c g l) (CallPlaced P c g l)
  call-placed g l =
      there (slice_get P.functions g) (λ f. as_tree P c f.result (is_in c.progress.unwritten l && is_at l (frontier_at c l)))
      (λ f. (f.result ≡ 254 → ⊥) → In c.progress.unwritten l × (frontier_at c l ≡ Some (frontier.At l)))
      (λ f. for-tree f.result (both (is-in c.progress.unwritten l) (is-at l (frontier_at c l))))

  branch-named : (form x l : ℕ) → Means (either (slice_get P.forms form) true (λ f. all_fresh c.variables x 0 (parts f) && all_fresh c.locations l 0 f.fields.subtrees)) (BranchNamed P c form x l)
  branch-named form x l =
      if-there (slice_get P.forms form) (λ f. all_fresh c.variables x 0 (parts f) && all_fresh c.locations l 0 f.fields.subtrees)
      (λ f. AllFree c.variables x (parts f) × AllFree c.locations l f.fields.subtrees)
      (λ f. both (all-free c.variables x (parts f)) (all-free c.locations l f.fields.subtrees))

  names-mean : (r : Row) → Means (names P c r) (Named P c r)
  names-mean (row.Variable x) = is-used c.variables x
  names-mean (row.Number value) = nothing
  names-mean (row.Sum x y) = both (is-used c.variables x) (is-used c.variables y)
  names-mean (row.Difference x y) = both (is-used c.variables x) (is-used c.variables y)
  names-mean (row.Region r room) = is_free c.progress.frontiers r
  names-mean (row.Start l r) = both (is_free c.locations l) (is-used c.progress.frontiers r)
  names-mean (row.Past l m k) = both (is_free c.locations l) (is-used c.locations m)
  names-mean (row.After l m t) = both (is_free c.locations l) (is-used c.locations m)
  names-mean (row.Construct form l v0 v1 v2 v3 v4 v5 v6 v7) = construct-named form l (Eight v0 v1 v2 v3 v4 v5 v6 v7)
  names-mean (row.Let x t l body) = both (is_free c.variables x) (for-tree t (is-used c.locations l))
  names-mean (row.Test x y other) = both (is-used c.variables x) (is-used c.variables y)
  names-mean (row.Call g l v0 v1 v2 v3) = call-named g l (v0 ∷ v1 ∷ v2 ∷ v3 ∷ [])
  names-mean (row.Case x) = is-used c.variables x
  names-mean (row.Branch form x0 l0 next) = branch-named form x0 l0

  kinds-mean : (n : ℕ) (r : Row) → Means (kinds P c n r) (Kinded P c n r)
  kinds-mean n (row.Variable x) = nothing
  kinds-mean n (row.Number value) = nothing
  kinds-mean n (row.Sum x y) = two-integers c x y
  kinds-mean n (row.Difference x y) = two-integers c x y
  kinds-mean n (row.Region r room) = nothing
  kinds-mean n (row.Start l r) = nothing
  kinds-mean n (row.Past l m k) = nothing
  kinds-mean n (row.After l m t) = nothing
  kinds-mean n (row.Construct form l v0 v1 v2 v3 v4 v5 v6 v7) = construct-kinded form (Eight v0 v1 v2 v3 v4 v5 v6 v7)
  kinds-mean n (row.Let x t l body) = nothing
  kinds-mean n (row.Test x y other) = two-integers c x y
  kinds-mean n (row.Call g l v0 v1 v2 v3) = call-kinded g (v0 ∷ v1 ∷ v2 ∷ v3 ∷ [])
  kinds-mean n (row.Case x) = apart P n (at c.variables x)
  kinds-mean n (row.Branch form x0 l0 next) = nothing

  rules-mean : (r : Row) → Means (rules P c r) (Fronted P c r)
  rules-mean (row.Variable x) = nothing
  rules-mean (row.Number value) = nothing
  rules-mean (row.Sum x y) = nothing
  rules-mean (row.Difference x y) = nothing
  rules-mean (row.Region r room) = nothing
  rules-mean (row.Start l r) = is-nothing (at c.progress.frontiers r)
  rules-mean (row.Past l m k) = both (is-in c.progress.unwritten m) (is-at m (frontier_at c m))
  rules-mean (row.After l m t) = both (is-at m (frontier_at c m)) (any-tree t m c.variables)
  rules-mean (row.Construct form l v0 v1 v2 v3 v4 v5 v6 v7) = nothing
  rules-mean (row.Let x t l body) = nothing
  rules-mean (row.Test x y other) = nothing
  rules-mean (row.Call g l v0 v1 v2 v3) = nothing
  rules-mean (row.Case x) = nothing
  rules-mean (row.Branch form x0 l0 next) = nothing

  places-mean : (r : Row) → Means (places P c r) (Placed P c r)
  places-mean (row.Variable x) = nothing
  places-mean (row.Number value) = nothing
  places-mean (row.Sum x y) = nothing
  places-mean (row.Difference x y) = nothing
  places-mean (row.Region r room) = nothing
  places-mean (row.Start l r) = nothing
  places-mean (row.Past l m k) = nothing
  places-mean (row.After l m t) = nothing
  places-mean (row.Construct form l v0 v1 v2 v3 v4 v5 v6 v7) = construct-placed form l (Eight v0 v1 v2 v3 v4 v5 v6 v7)
  places-mean (row.Let x t l body) = for-tree t (is-in c.progress.unwritten l)
  places-mean (row.Test x y other) = nothing
  places-mean (row.Call g l v0 v1 v2 v3) = call-placed g l
  places-mean (row.Case x) = nothing
  places-mean (row.Branch form x0 l0 next) = nothing

pub worded : (P : Program) → Worded P
worded P c n r = (
  (λ a. record { scope = (names-mean P c r).to a.scope; kind = (kinds-mean P c n r).to a.kind; frontier = (rules-mean P c r).to a.frontier; place = (places-mean P c r).to a.place }),
  (λ a. record { scope = (names-mean P c r).from a.scope; kind = (kinds-mean P c n r).from a.kind; frontier = (rules-mean P c r).from a.frontier; place = (places-mean P c r).from a.place }),
)
