-- The laws of the typing rules: shut regions, names in scope, kinds, contexts.
use Rattle.std.proofs.Common.{◌≡◌, ℕ, zero, suc, ◌+◌, ◌<◌, ◌≤◌, Bool, true, false, cond, ◌&&◌, ◌||◌, eqb, List, [], ◌∷◌, length, get_or, set, Some, None, Option, sym, refl, ap, ◌∙◌, subst, inl, inr, arith}
use Rattle.std.specs.List.{slice_get}
use Rattle.std.proofs.lemmas.Bool.{cases_eq}
use Rattle.std.proofs.lemmas.Bool.Decides.{nat_tests}
use Rattle.std.proofs.lemmas.Bool.{eqb-true}
use Rattle.packed.specs.declared.constructor.Constructor.{Constructor}
use Rattle.packed.specs.Forms.{either}
use Rattle.table.specs.declared.function.Function.{Function}
use Rattle.table.specs.declared.row.Row.{Row}
use Rattle.table.specs.declared.row.Row.TheVariants as row
use Rattle.checker.specs.declared.kind.Kind.{Kind}
use Rattle.checker.specs.declared.kind.Kind.TheVariants as kind
use Rattle.checker.specs.declared.context.Context.{Context}
use Rattle.checker.specs.declared.context.Progress.{Progress}
use Rattle.checker.specs.declared.context.Location.{Location}
use Rattle.checker.specs.declared.context.Rule.TheVariants as rule
use Rattle.checker.specs.declared.context.Frontier.{Frontier}
use Rattle.checker.specs.declared.context.Frontier.TheVariants as frontier
use Rattle.checker.specs.Contexts.{at, used, fresh, is_in, is_nothing, is_within, is_at, region_of, frontier_in, frontier_at, with_frontier, with_unwritten, opened, closed, placed, written, shutting, left, parts}
use Rattle.checker.specs.Conditions.{Program, has_kind, all_used, all_have, four_integers, as_tree}
use Rattle.checker.specs.Verdict.{Done, done_with}
use Rattle.checker.specs.Rules.{Asked, Typed, Arms, Branch, variable, number, sum, difference, region, start, past, after, construct, bind, test, call, case, last, more, branch}
use Rattle.checker.specs.First.{Locates}
use Rattle.checker.specs.First.Locates.{start as at-start, past as at-past, after as at_after}
use Rattle.checker.specs.Laws.{Operand, Operand.sum_left, Operand.sum_right, Operand.difference_left, Operand.difference_right, Operand.test_left, Operand.test_right, UsesVariable, UsesVariable.read, UsesVariable.operand, UsesVariable.apart, UsesVariable.part, UsesVariable.argument, UsesLocation, UsesLocation.behind_head, UsesLocation.behind_tree, UsesLocation.built, UsesLocation.bound, UsesLocation.given, UsesRegion, Holds, Leaves, Agree, Laws}
use Rattle.checker.specs.Laws.UsesRegion.{opened as started}
use Rattle.checker.proofs.Inversions.{true-false, some-none, and-true}
use Rattle.checker.proofs.Scopes.{kept}
use Rattle.checker.proofs.Orderly.{one-row}
use Rattle.checker.proofs.Typing.{typed-term, apart as taken-apart}

-- Tables by name.

at_other : {X : Type 0} (xs : List (Option X)) (m n : ℕ) (v : Option X) → (m ≡ n → ⊥) → at (set xs m v) n ≡ at xs n
at_other [] m n v h = refl
at_other (x ∷ xs) zero zero v h = absurd (h refl)
at_other (x ∷ xs) zero (suc n) v h = refl
at_other (x ∷ xs) (suc m) zero v h = refl
at_other (x ∷ xs) (suc m) (suc n) v h = at_other xs m n v (λ e. h (ap suc e))

fresh-none : {X : Type 0} (xs : List (Option X)) (n : ℕ) → fresh xs n ≡ true → at xs n ≡ None
fresh-none [] n h = absurd (true-false (sym h))
fresh-none (None ∷ xs) zero h = refl
fresh-none (Some y ∷ xs) zero h = absurd (true-false (sym h))
fresh-none (x ∷ xs) (suc n) h = fresh-none xs n h

fresh_set : {X : Type 0} (xs : List (Option X)) (n : ℕ) (v : X) → fresh xs n ≡ true → at (set xs n (Some v)) n ≡ Some v
fresh_set [] n v h = absurd (true-false (sym h))
fresh_set (x ∷ xs) zero v h = refl
fresh_set (x ∷ xs) (suc n) v h = fresh_set xs n v h

used-set : {X : Type 0} (xs : List (Option X)) (n : ℕ) (v w : X) → at xs n ≡ Some w → at (set xs n (Some v)) n ≡ Some v
used-set [] n v w h = absurd (some-none (sym h))
used-set (x ∷ xs) zero v w h = refl
used-set (x ∷ xs) (suc n) v w h = used-set xs n v w h

-- what is there was tested
known : {A : Type 0} (o : Option A) (b : Bool) (asks : A → Bool) (x : A) → o ≡ Some x → either o b asks ≡ true → asks x ≡ true
known o b asks x e h = subst (λ p. either p b asks ≡ true) e h

-- Regions that are shut.

abbrev IsShut : Option Frontier → Type 0
IsShut f = f ≡ Some frontier.Shut

none_open : (f : Option Frontier) → f ≡ None → IsShut f → ⊥
none_open f p q = some-none (sym q ∙ p)

nothing-open : (f : Option Frontier) → is_nothing f ≡ true → IsShut f → ⊥
nothing-open f p q = true-false (sym p ∙ ap is_nothing q)

at_open : (l : ℕ) (f : Option Frontier) → is_at l f ≡ true → IsShut f → ⊥
at_open l f p q = true-false (sym p ∙ ap (is_at l) q)

within-open : (l n : ℕ) (f : Option Frontier) → is_within l n f ≡ true → IsShut f → ⊥
within-open l n f p q = true-false (sym p ∙ ap (is_within l n) q)

-- a frontier that moves is that of a region that is not shut
moved : (p : Progress) (o : Option ℕ) (f : Option Frontier) (r : ℕ) → IsShut (frontier_in p (Some r)) → (IsShut (frontier_in p o) → ⊥) → IsShut (frontier_in (with_frontier p o f) (Some r))
moved p None f r h opens = h
moved p (Some s) f r h opens = at_other p.frontiers s r f (λ e. opens (subst (λ k. at p.frontiers k ≡ Some frontier.Shut) (sym e) h)) ∙ h

still-shutting : (p : Progress) (o : Option ℕ) (l n r : ℕ) → IsShut (frontier_in p (Some r)) → IsShut (frontier_in (shutting p o l n) (Some r))
still-shutting p o l n r h = go (is_within l n (frontier_in p o)) refl
  where
    go : (b : Bool) → is_within l n (frontier_in p o) ≡ b → IsShut (frontier_in (cond b (with_frontier p o (Some frontier.Shut)) p) (Some r))
    go true e = moved p o (Some frontier.Shut) r h (within-open l n (frontier_in p o) e)
    go false e = h

-- one lemma for each way in which a row moves a frontier
shut-opened : (c : Context) (s r : ℕ) → fresh c.progress.frontiers s ≡ true → IsShut (frontier_in c.progress (Some r)) → IsShut (frontier_in (opened c s).progress (Some r))
shut-opened c s r f h = moved c.progress (Some s) (Some frontier.Nothing) r h (none_open (at c.progress.frontiers s) (fresh-none c.progress.frontiers s f))

shut-closed : (c d : Context) (s r : ℕ) → fresh c.progress.frontiers s ≡ true → IsShut (frontier_in c.progress (Some r)) → IsShut (frontier_in d.progress (Some r)) → IsShut (frontier_in (closed d s).progress (Some r))
shut-closed c d s r f h g =
    at_other d.progress.frontiers s r None (λ e. none_open (at c.progress.frontiers s) (fresh-none c.progress.frontiers s f) (subst (λ k. at c.progress.frontiers k ≡ Some frontier.Shut) (sym e) h)) ∙ g

shut-placed : (c : Context) (l : ℕ) (p : Location) (r : ℕ) → (IsShut (frontier_in c.progress p.region) → ⊥) → IsShut (frontier_in c.progress (Some r)) → IsShut (frontier_in (placed c l p).progress (Some r))
shut-placed c l p r opens h = moved (with_unwritten c.progress l true) p.region (Some (frontier.At l)) r h opens

shut-written : (c : Context) (l r : ℕ) → (IsShut (frontier_at c l) → ⊥) → IsShut (frontier_in c.progress (Some r)) → IsShut (frontier_in (written c l).progress (Some r))
shut-written c l r opens h = moved (with_unwritten c.progress l false) (region_of c l) (Some (frontier.At l)) r h opens

shut-left : (d : Context) (l r : ℕ) → IsShut (frontier_in d.progress (Some r)) → IsShut (frontier_in (left d l).progress (Some r))
shut-left d l r h = still-shutting d.progress (region_of d l) l 1 r h

-- what a construct and a call ask of the frontier where they write
chained-open : (o : Option ℕ) (f : Option Frontier) → either o false (λ m. is_at m f) ≡ true → IsShut f → ⊥
chained-open None f h q = true-false (sym h)
chained-open (Some m) f h q = at_open m f h q

form-open : (c : Context) (l : ℕ) (b : Bool) (o : Option Constructor) (chain : Constructor → Option ℕ) → (b && either o false (λ f. either (chain f) false (λ m. is_at m (frontier_at c l)))) ≡ true → IsShut (frontier_at c l) → ⊥
form-open c l b None chain h q = true-false (sym (and-true b false h).1)
form-open c l b (Some f) chain h q = chained-open (chain f) (frontier_at c l) (and-true b _ h).1 q

shut-called : (P : Program) (c : Context) (n g l v0 v1 v2 v3 r : ℕ) (f : Function) → slice_get P.functions g ≡ Some f → Asked P c n (row.Call g l v0 v1 v2 v3) → IsShut (frontier_in c.progress (Some r)) → IsShut (frontier_in (cond (eqb f.result 254) c (written c l)).progress (Some r))
shut-called P c n g l v0 v1 v2 v3 r f e a h = go (eqb f.result 254) (known (slice_get P.functions g) false (λ k. as_tree P c k.result (is_in c.progress.unwritten l && is_at l (frontier_at c l))) f e a.place)
  where
    go : (b : Bool) → (b || (is_in c.progress.unwritten l && is_at l (frontier_at c l))) ≡ true → IsShut (frontier_in (cond b c (written c l)).progress (Some r))
    go true q = h
    go false q = shut-written c l r (at_open l (frontier_at c l) (and-true (is_in c.progress.unwritten l) (is_at l (frontier_at c l)) q).1) h

mutual
  pub stays-shut : {P : Program} {c d : Context} {n : ℕ} {k : Kind} → Typed P c n k d → (r : ℕ) → frontier_in c.progress (Some r) ≡ Some frontier.Shut → frontier_in d.progress (Some r) ≡ Some frontier.Shut
  stays-shut (variable e a h) r q = q
  stays-shut (number e a) r q = q
  stays-shut (sum e a) r q = q
  stays-shut (difference e a) r q = q
  stays-shut {P} {c} (region {d = d} {r = s} e a t) r q = shut-closed c d s r a.scope q (stays-shut t r (shut-opened c s r a.scope q))
  stays-shut {P} {c} (start {d = d} {l = l} {r = s} e a t u) r q = shut-left d l r (stays-shut t r (shut-placed c l (record { region = Some s; rule = rule.Start }) r (nothing-open (at c.progress.frontiers s) a.frontier) q))
  stays-shut {P} {c} (past {d = d} {l = l} {m = m} {j = j} e a t u) r q = shut-left d l r (stays-shut t r (shut-placed c l (record { region = region_of c m; rule = rule.Past m j }) r (at_open m (frontier_at c m) (and-true (is_in c.progress.unwritten m) _ a.frontier).1) q))
  stays-shut {P} {c} (after {d = d} {l = l} {m = m} e a t u) r q = shut-left d l r (stays-shut t r (shut-placed c l (record { region = region_of c m; rule = rule.After m }) r (at_open m (frontier_at c m) (and-true (is_at m (frontier_at c m)) _ a.frontier).0) q))
  stays-shut {P} {c} (construct {form = form} {l = l} e a h) r q = shut-written c l r (form-open c l (is_in c.progress.unwritten l) (slice_get P.forms form) _ a.place) q
  stays-shut (bind e a t lt u) r q = stays-shut u r (stays-shut t r q)
  stays-shut (test e a t lt u) r q = stays-shut t r q
  stays-shut {P} {c} {n = n} (call {g = g} {l = l} {v0 = v0} {v1 = v1} {v2 = v2} {v3 = v3} {f = f} e a h) r q = shut-called P c n g l v0 v1 v2 v3 r f h a q
  stays-shut (case e a h t) r q = arms-shut t r q

  arms-shut : {P : Program} {c d : Context} {o : Option ℕ} {n : ℕ} {k : Kind} → Arms P c o n k d → (r : ℕ) → frontier_in c.progress (Some r) ≡ Some frontier.Shut → frontier_in d.progress (Some r) ≡ Some frontier.Shut
  arms-shut (last b) r q = branch-shut b r q
  arms-shut (more b lt t) r q = branch-shut b r q

  branch-shut : {P : Program} {c d : Context} {o : Option ℕ} {n m : ℕ} {k : Kind} → Branch P c o n k d m → (r : ℕ) → frontier_in c.progress (Some r) ≡ Some frontier.Shut → frontier_in d.progress (Some r) ≡ Some frontier.Shut
  branch-shut {o = o} (branch {d = d} {l = l} {f = f} e a h t s) r q = still-shutting d.progress o l f.fields.subtrees r (stays-shut t r q)

-- a region that is written up to a location is shut where that leaves scope
one-within : (l : ℕ) → is_within l 1 (Some (frontier.At l)) ≡ true
one-within l = grind (arith, nat_tests)

shut_at : (p : Progress) (o : Option ℕ) (s l : ℕ) → o ≡ Some s → frontier_in p (Some s) ≡ Some (frontier.At l) → IsShut (frontier_in (shutting p o l 1) (Some s))
shut_at p o s l e h = subst (λ q. IsShut (frontier_in (shutting p q l 1) (Some s))) (sym e) (go (is_within l 1 (frontier_in p (Some s))) (ap (is_within l 1) h ∙ one-within l))
  where
    go : (b : Bool) → b ≡ true → IsShut (frontier_in (cond b (with_frontier p (Some s) (Some frontier.Shut)) p) (Some s))
    go true q = used-set p.frontiers s frontier.Shut (frontier.At l) h
    go false q = absurd (true-false (sym q))

leaves-with : (P : Program) (c d : Context) (n l : ℕ) (p : Location) (k : Kind) → fresh c.locations l ≡ true → Typed P (placed c l p) (n + 1) k d → Leaves P c n l p k (left d l)
leaves-with P c d n l p k f t =
    let there : at d.locations l ≡ Some p = ap (λ ls. at ls l) (kept t).1 ∙ fresh_set c.locations l p f in
    record {
      inner = d;
      child = t;
      behind = refl;
      shut = λ s e h. shut_at d.progress (region_of d l) s l (ap (λ o. either o None (λ (q : Location). q.region)) there ∙ e) h;
    }

-- What a typed row asked, and what it leaves if it bound a location.
abbrev Under : Program → Context → ℕ → Kind → Context → Row → Type 0
Under P c n k e (row.Variable x) = Unit {0}
Under P c n k e (row.Number value) = Unit {0}
Under P c n k e (row.Sum x y) = Unit {0}
Under P c n k e (row.Difference x y) = Unit {0}
Under P c n k e (row.Region r room) = Unit {0}
Under P c n k e (row.Start l r) = Leaves P c n l (record { region = Some r; rule = rule.Start }) k e
Under P c n k e (row.Past l m j) = Leaves P c n l (record { region = region_of c m; rule = rule.Past m j }) k e
Under P c n k e (row.After l m t) = Leaves P c n l (record { region = region_of c m; rule = rule.After m }) k e
Under P c n k e (row.Construct form l v0 v1 v2 v3 v4 v5 v6 v7) = Unit {0}
Under P c n k e (row.Let x t l m) = Unit {0}
Under P c n k e (row.Test x y m) = Unit {0}
Under P c n k e (row.Call g l v0 v1 v2 v3) = Unit {0}
Under P c n k e (row.Case x) = Unit {0}
Under P c n k e (row.Branch form x l m) = Unit {0}

record There (P : Program) (c : Context) (n : ℕ) (k : Kind) (e : Context) : Type 0 where
  row : Row
  is : slice_get P.rows n ≡ Some row
  asked : Asked P c n row
  under : Under P c n k e row

there : {P : Program} {c d : Context} {n : ℕ} {k : Kind} → Typed P c n k d → There P c n k d
there (variable e a h) = record { row = _; is = e; asked = a; under = tt }
there (number e a) = record { row = _; is = e; asked = a; under = tt }
there (sum e a) = record { row = _; is = e; asked = a; under = tt }
there (difference e a) = record { row = _; is = e; asked = a; under = tt }
there (region e a t) = record { row = _; is = e; asked = a; under = tt }
there {P} {c} {n = n} {k = k} (start {d = d} {l = l} {r = r} e a t s) = record { row = row.Start l r; is = e; asked = a; under = leaves-with P c d n l _ k (and-true (fresh c.locations l) _ a.scope).0 t }
there {P} {c} {n = n} {k = k} (past {d = d} {l = l} {m = m} {j = j} e a t s) = record { row = row.Past l m j; is = e; asked = a; under = leaves-with P c d n l _ k (and-true (fresh c.locations l) _ a.scope).0 t }
there {P} {c} {n = n} {k = k} (after {d = d} {l = l} {m = m} {t = j} e a t s) = record { row = row.After l m j; is = e; asked = a; under = leaves-with P c d n l _ k (and-true (fresh c.locations l) _ a.scope).0 t }
there (construct e a h) = record { row = _; is = e; asked = a; under = tt }
there (bind e a t lt u) = record { row = _; is = e; asked = a; under = tt }
there (test e a t lt u) = record { row = _; is = e; asked = a; under = tt }
there (call e a h) = record { row = _; is = e; asked = a; under = tt }
there (case e a h t) = record { row = _; is = e; asked = a; under = tt }

asked-at : {P : Program} {c d : Context} {n : ℕ} {k : Kind} → Typed P c n k d → (r : Row) → slice_get P.rows n ≡ Some r → Asked P c n r
asked-at {P} {c} {n = n} t r e = let h = there t in subst (Asked P c n) (one-row (slice_get P.rows n) h.row r h.is e) h.asked

under_at : {P : Program} {c d : Context} {n : ℕ} {k : Kind} → Typed P c n k d → (r : Row) → slice_get P.rows n ≡ Some r → Under P c n k d r
under_at {P} {c} {d} {n} {k} t r e = let h = there t in subst (Under P c n k d) (one-row (slice_get P.rows n) h.row r h.is e) h.under

leaves_at : {P : Program} {c e : Context} {n l : ℕ} {r : Row} {p : Location} {k : Kind} → Typed P c n k e → slice_get P.rows n ≡ Some r → Locates c r l p → Leaves P c n l p k e
leaves_at t i (at-start {l} {r}) = under_at t (row.Start l r) i
leaves_at t i (at-past {l} {m} {k = j}) = under_at t (row.Past l m j) i
leaves_at t i (at_after {l} {m} {t = j}) = under_at t (row.After l m j) i

-- Names that are used are in scope.

all-used : (c : Context) (vs : List ℕ) (i n : ℕ) → all_used c vs i n ≡ true → (j : ℕ) → i ≤ j → j < i + n → used c.variables (get_or vs j 0) ≡ true
all-used c vs i zero h j lo hi = absurd (omega arith)
all-used c vs i (suc n) h j lo hi =
    let p = and-true (used c.variables (get_or vs i 0)) (all_used c vs (i + 1) n) h in
    elim (cases_eq j i) [
      | inl q ↦ subst (λ m. used c.variables (get_or vs m 0) ≡ true) (sym q) p.0
      | inr d ↦ all-used c vs (i + 1) n p.1 j (omega arith) (omega arith)
    ]

as-tree : (t : ℕ) (b : Bool) → (eqb t 254 || b) ≡ true → (t ≡ 254 → ⊥) → b ≡ true
as-tree t b h other = go (eqb t 254) refl h
  where
    go : (z : Bool) → eqb t 254 ≡ z → (z || b) ≡ true → b ≡ true
    go true e q = absurd (other (eqb-true t 254 e))
    go false e q = q

module _ (P : Program) (c : Context) (n : ℕ) where
  operand-used : {r : Row} {x : ℕ} → Asked P c n r → Operand r x → used c.variables x ≡ true
  operand-used a (sum_left {x} {y}) = (and-true (used c.variables x) (used c.variables y) a.scope).0
  operand-used a (sum_right {x} {y}) = (and-true (used c.variables x) (used c.variables y) a.scope).1
  operand-used a (difference_left {x} {y}) = (and-true (used c.variables x) (used c.variables y) a.scope).0
  operand-used a (difference_right {x} {y}) = (and-true (used c.variables x) (used c.variables y) a.scope).1
  operand-used a (test_left {x} {y}) = (and-true (used c.variables x) (used c.variables y) a.scope).0
  operand-used a (test_right {x} {y}) = (and-true (used c.variables x) (used c.variables y) a.scope).1

  variable-used : {r : Row} {x : ℕ} → Asked P c n r → UsesVariable P r x → used c.variables x ≡ true
  variable-used a read = a.scope
  variable-used a (operand o) = operand-used a o
  variable-used a apart = a.scope
  variable-used a (part {form} {l} {v0} {v1} {v2} {v3} {v4} {v5} {v6} {v7} {i} {f} e lt) =
      let vs = v0 ∷ v1 ∷ v2 ∷ v3 ∷ v4 ∷ v5 ∷ v6 ∷ v7 ∷ [] in
      all-used c vs 0 (parts f) (known (slice_get P.forms form) true (λ g. all_used c vs 0 (parts g)) f e (and-true (used c.locations l) _ a.scope).1) i (omega arith) (omega arith)
  variable-used a (argument {g} {l} {v0} {v1} {v2} {v3} {i} {f} e lt) =
      let vs = v0 ∷ v1 ∷ v2 ∷ v3 ∷ [] in
      let h = known (slice_get P.functions g) true (λ k. all_used c vs 0 k.parameters && as_tree P c k.result (used c.locations l)) f e a.scope in
      all-used c vs 0 f.parameters (and-true (all_used c vs 0 f.parameters) _ h).0 i (omega arith) (omega arith)

  location-used : {r : Row} {l : ℕ} → Asked P c n r → UsesLocation P r l → used c.locations l ≡ true
  location-used a (behind_head {l} {m}) = (and-true (fresh c.locations l) (used c.locations m) a.scope).1
  location-used a (behind_tree {l} {m}) = (and-true (fresh c.locations l) (used c.locations m) a.scope).1
  location-used a (built {l = l}) = (and-true (used c.locations l) _ a.scope).0
  location-used a (bound {x} {t} {l} other) = as-tree t (used c.locations l) (and-true (fresh c.variables x) _ a.scope).1 other
  location-used a (given {g} {l} {v0} {v1} {v2} {v3} {f} e other) =
      let vs = v0 ∷ v1 ∷ v2 ∷ v3 ∷ [] in
      let h = known (slice_get P.functions g) true (λ k. all_used c vs 0 k.parameters && as_tree P c k.result (used c.locations l)) f e a.scope in
      as-tree f.result (used c.locations l) (and-true (all_used c vs 0 f.parameters) _ h).1 other

  region-used : {r : Row} {s : ℕ} → Asked P c n r → UsesRegion r s → used c.progress.frontiers s ≡ true
  region-used a (started {l} {s}) = (and-true (fresh c.locations l) (used c.progress.frontiers s) a.scope).1

-- Kinds agree.

is-integer : (o : Option Kind) → has_kind o 254 ≡ true → o ≡ Some kind.Integer
is-integer None h = absurd (true-false (sym h))
is-integer (Some kind.Integer) h = refl
is-integer (Some (kind.Tree t l)) h = absurd (true-false (sym h))

holds : (c : Context) (x t : ℕ) → has_kind (at c.variables x) t ≡ true → Holds c x t
holds c x t h = go (at c.variables x) refl h
  where
    go : (o : Option Kind) → at c.variables x ≡ o → has_kind o t ≡ true → Holds c x t
    go None e q = absurd (true-false (sym q))
    go (Some k) e q = record { kind = k; is = e; same = q }

have-all : (c : Context) (vs : List ℕ) (i : ℕ) (ts : List ℕ) (j n : ℕ) → all_have c vs i ts j n ≡ true → (q : ℕ) → j ≤ q → q < j + n → has_kind (at c.variables (get_or vs (i + q) 0)) (get_or ts q 0) ≡ true
have-all c vs i ts j zero h q lo hi = absurd (omega arith)
have-all c vs i ts j (suc n) h q lo hi =
    let p = and-true (has_kind (at c.variables (get_or vs (i + j) 0)) (get_or ts j 0)) (all_have c vs i ts (j + 1) n) h in
    elim (cases_eq q j) [
      | inl e ↦ subst (λ m. has_kind (at c.variables (get_or vs (i + m) 0)) (get_or ts m 0) ≡ true) (sym e) p.0
      | inr d ↦ have-all c vs i ts (j + 1) n p.1 q (omega arith) (omega arith)
    ]

all-have-first : (c : Context) (vs : List ℕ) (ts : List ℕ) (n : ℕ) → all_have c vs 0 ts 0 n ≡ true → (q : ℕ) → q < n → has_kind (at c.variables (get_or vs q 0)) (get_or ts q 0) ≡ true
all-have-first c vs ts n h q lt =
    let e : 0 + q ≡ q = omega arith in
    subst (λ m. has_kind (at c.variables (get_or vs m 0)) (get_or ts q 0) ≡ true) e (have-all c vs 0 ts 0 n h q (omega arith) (omega arith))

four-integers : (i : ℕ) → i < 4 → get_or four_integers i 0 ≡ 254
four-integers zero h = refl
four-integers (suc zero) h = refl
four-integers (suc (suc zero)) h = refl
four-integers (suc (suc (suc zero))) h = refl
four-integers (suc (suc (suc (suc i)))) h = absurd (omega arith)

module _ (P : Program) (c : Context) (n : ℕ) where
  operand-integer : {r : Row} {x : ℕ} → Asked P c n r → Operand r x → at c.variables x ≡ Some kind.Integer
  operand-integer a (sum_left {x} {y}) = is-integer (at c.variables x) (and-true (has_kind (at c.variables x) 254) (has_kind (at c.variables y) 254) a.kind).0
  operand-integer a (sum_right {x} {y}) = is-integer (at c.variables y) (and-true (has_kind (at c.variables x) 254) (has_kind (at c.variables y) 254) a.kind).1
  operand-integer a (difference_left {x} {y}) = is-integer (at c.variables x) (and-true (has_kind (at c.variables x) 254) (has_kind (at c.variables y) 254) a.kind).0
  operand-integer a (difference_right {x} {y}) = is-integer (at c.variables y) (and-true (has_kind (at c.variables x) 254) (has_kind (at c.variables y) 254) a.kind).1
  operand-integer a (test_left {x} {y}) = is-integer (at c.variables x) (and-true (has_kind (at c.variables x) 254) (has_kind (at c.variables y) 254) a.kind).0
  operand-integer a (test_right {x} {y}) = is-integer (at c.variables y) (and-true (has_kind (at c.variables x) 254) (has_kind (at c.variables y) 254) a.kind).1

  argument-kind : (g l v0 v1 v2 v3 : ℕ) (f : Function) → Asked P c n (row.Call g l v0 v1 v2 v3) → slice_get P.functions g ≡ Some f → (i : ℕ) → i < f.parameters → Holds c (get_or (v0 ∷ v1 ∷ v2 ∷ v3 ∷ []) i 0) (get_or f.kinds i 0)
  argument-kind g l v0 v1 v2 v3 f a e i lt =
      let vs = v0 ∷ v1 ∷ v2 ∷ v3 ∷ [] in
      let h = known (slice_get P.functions g) false (λ k. all_have c vs 0 k.kinds 0 k.parameters) f e a.kind in
      holds c (get_or vs i 0) (get_or f.kinds i 0) (all-have-first c vs f.kinds f.parameters h i lt)

  module _ (form l v0 v1 v2 v3 v4 v5 v6 v7 : ℕ) (f : Constructor) (a : Asked P c n (row.Construct form l v0 v1 v2 v3 v4 v5 v6 v7)) (e : slice_get P.forms form ≡ Some f) where
    abbrev Vs : List ℕ
    Vs = v0 ∷ v1 ∷ v2 ∷ v3 ∷ v4 ∷ v5 ∷ v6 ∷ v7 ∷ []

    both-have : (all_have c Vs 0 four_integers 0 f.fields.integers ≡ true) × (all_have c Vs f.fields.integers f.fields.types 0 f.fields.subtrees ≡ true)
    both-have = and-true (all_have c Vs 0 four_integers 0 f.fields.integers) _ (known (slice_get P.forms form) false (λ k. all_have c Vs 0 four_integers 0 k.fields.integers && all_have c Vs k.fields.integers k.fields.types 0 k.fields.subtrees) f e a.kind)

    integer-kind : (i : ℕ) → i < f.fields.integers → i < 4 → at c.variables (get_or Vs i 0) ≡ Some kind.Integer
    integer-kind i lt few =
        is-integer (at c.variables (get_or Vs i 0))
        (subst (λ t. has_kind (at c.variables (get_or Vs i 0)) t ≡ true) (four-integers i few) (all-have-first c Vs four_integers f.fields.integers both-have.0 i lt))

    subtree-kind : (i : ℕ) → i < f.fields.subtrees → Holds c (get_or Vs (f.fields.integers + i) 0) (get_or f.fields.types i 0)
    subtree-kind i lt = holds c (get_or Vs (f.fields.integers + i) 0) (get_or f.fields.types i 0) (have-all c Vs f.fields.integers f.fields.types 0 f.fields.subtrees both-have.1 i (omega arith) (omega arith))

-- A context is what its names stand for, and determines what a row gives.

pub same_at : {X : Type 0} (xs ys : List (Option X)) → length xs ≡ length ys → ((n : ℕ) → at xs n ≡ at ys n) → xs ≡ ys
same_at [] [] e h = refl
same_at [] (y ∷ ys) e h = absurd (omega arith)
same_at (x ∷ xs) [] e h = absurd (omega arith)
same_at (x ∷ xs) (y ∷ ys) e h =
    let a : x ≡ y = h 0 in
    let b : xs ≡ ys = same_at xs ys (omega arith) (λ n. h (suc n)) in
    cc

same_in : (xs ys : List Bool) → length xs ≡ length ys → ((n : ℕ) → is_in xs n ≡ is_in ys n) → xs ≡ ys
same_in [] [] e h = refl
same_in [] (y ∷ ys) e h = absurd (omega arith)
same_in (x ∷ xs) [] e h = absurd (omega arith)
same_in (x ∷ xs) (y ∷ ys) e h =
    let a : x ≡ y = h 0 in
    let b : xs ≡ ys = same_in xs ys (omega arith) (λ n. h (suc n)) in
    cc

same-context : (c d : Context) → Agree c d → c ≡ d
same-context c d a =
    let v = same_at c.variables d.variables a.variable_range a.variables in
    let l = same_at c.locations d.locations a.location_range a.locations in
    let f = same_at c.progress.frontiers d.progress.frontiers a.region_range a.regions in
    let u = same_in c.progress.unwritten d.progress.unwritten a.unwritten_range a.unwritten in
    λ i. record { variables = v i; locations = l i; progress = record { frontiers = f i; unwritten = u i } }

one-outcome : (P : Program) {c d e : Context} {n : ℕ} {k j : Kind} → Typed P c n k d → Typed P c n j e → (k ≡ j) × (d ≡ e)
one-outcome P {c} {d} {e} {n} {k} {j} t u =
    let a = typed-term P t (length P.rows) (omega arith) in
    let b = typed-term P u (length P.rows) (omega arith) in
    let same : done_with k d ≡ done_with j e = cc in
    (ap (λ (x : Done). x.kind) same, ap (λ (x : Done). x.after) same)

pub laws : (P : Program) → Laws P
laws P = record {
  variables = λ {c} {d} {n} {x} {r} t i u. variable-used P c n (asked-at t r i) u;
  locations = λ {c} {d} {n} {l} {r} t i u. location-used P c n (asked-at t r i) u;
  regions = λ {c} {d} {n} {s} {r} t i u. region-used P c n (asked-at t r i) u;
  operands = λ {c} {d} {n} {x} {r} t i u. operand-integer P c n (asked-at t r i) u;
  arguments = λ {c} {d} {n} {g} {l} {v0} {v1} {v2} {v3} {f} t i e. argument-kind P c n g l v0 v1 v2 v3 f (asked-at t (row.Call g l v0 v1 v2 v3) i) e;
  integers = λ {c} {d} {n} {form} {l} {v0} {v1} {v2} {v3} {v4} {v5} {v6} {v7} {f} t i e. integer-kind P c n form l v0 v1 v2 v3 v4 v5 v6 v7 f (asked-at t (row.Construct form l v0 v1 v2 v3 v4 v5 v6 v7) i) e;
  subtrees = λ {c} {d} {n} {form} {l} {v0} {v1} {v2} {v3} {v4} {v5} {v6} {v7} {f} t i e. subtree-kind P c n form l v0 v1 v2 v3 v4 v5 v6 v7 f (asked-at t (row.Construct form l v0 v1 v2 v3 v4 v5 v6 v7) i) e;
  tree = λ {c} {d} {n} {x} t i. taken-apart P n (at c.variables x) (asked-at t (row.Case x) i).kind;
  scope = λ t. kept t;
  agreed = same-context;
  determined = λ t u. one-outcome P t u;
  shut = λ t. stays-shut t;
  leaves = λ t i w. leaves_at t i w;
  ends = λ w i f e. let b = w i f e in record { end = b.end; typed = b.typed; scope = kept b.typed; full = b.full };
}
