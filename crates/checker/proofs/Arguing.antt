-- Chains of trees among the variables of a row: one more tree at a time, and in a part of a slice.
use Rattle.std.proofs.Common.{◌≡◌, ℕ, zero, suc, ◌+◌, ◌-◌, ◌<◌, ◌≤◌, List, length, get_or, Some, None, Option, sym, refl, ap, ◌∙◌, arith}
use Rattle.std.specs.List.{between}
use Rattle.std.proofs.lemmas.List.Edits.{length-between, get_or-between}
use Rattle.packed.specs.Forms.{either}
use Rattle.checker.specs.declared.context.Context.{Context}
use Rattle.checker.specs.declared.context.Rule.{Rule}
use Rattle.checker.specs.declared.context.Rule.TheVariants as rule
use Rattle.checker.specs.Contexts.{at}
use Rattle.checker.specs.Conditions.{ruled_place, chained}

-- the place of variable i says how the chain to place n goes on: it ends without one
pub chained-step : (c : Context) (r : Rule) (last : ℕ) (vs : List ℕ) (i n : ℕ) (whole place : Option ℕ) → i < n → chained c r last vs i (n - i) ≡ whole → place ≡ ruled_place c r (at c.variables (get_or vs i 0)) → either place None (λ m. chained c (rule.After m) m vs (i + 1) (n - (i + 1))) ≡ whole
chained-step c r last vs i n whole place h inv e =
    let more : n - i ≡ suc (n - (i + 1)) = omega arith in
    ap (λ o. either o None (λ m. chained c (rule.After m) m vs (i + 1) (n - (i + 1)))) e ∙ sym (ap (chained c r last vs i) more) ∙ inv

either-same : {X Y : Type 0} (o : Option X) (f g : X → Option Y) → ((x : X) → f x ≡ g x) → either o None f ≡ either o None g
either-same None f g h = refl
either-same (Some x) f g h = h x

-- a chain in a part of a slice is one in the slice
chained-between : (c : Context) (r : Rule) (last : ℕ) (vs : List ℕ) (i j k a n : ℕ) → a ≡ i + k → a + n ≤ j → chained c r last (between i j vs) k n ≡ chained c r last vs a n
chained-between c r last vs i j k a zero e h = refl
chained-between c r last vs i j k a (suc n) e h =
    let read : get_or (between i j vs) k 0 ≡ get_or vs a 0 = get_or-between vs i j k 0 (omega arith) ∙ ap (λ b. get_or vs b 0) (sym e) in
    ap (λ x. either (ruled_place c r (at c.variables x)) None (λ m. chained c (rule.After m) m (between i j vs) (k + 1) n)) read
    ∙ either-same (ruled_place c r (at c.variables (get_or vs a 0))) _ _ (λ m. chained-between c (rule.After m) m vs i j (k + 1) (a + 1) n (omega arith) (omega arith))

pub chained-part : (c : Context) (r : Rule) (last : ℕ) (vs : List ℕ) (i n a b : ℕ) (o : Option ℕ) → a ≡ i → b ≡ n → i + n ≤ length vs → o ≡ chained c r last (between a (a + b) vs) 0 (length (between a (a + b) vs)) → o ≡ chained c r last vs i n
chained-part c r last vs i n a b o p q h e =
    let long : length (between a (a + b) vs) ≡ b = omega (arith, length-between vs a (a + b) (omega arith)) in
    e
    ∙ ap (chained c r last (between a (a + b) vs) 0) long
    ∙ chained-between c r last vs a (a + b) 0 a b (omega arith) (omega arith)
    ∙ ap (λ k. chained c r last vs k b) p
    ∙ ap (chained c r last vs i) q
