-- What the check asks of a row before its children, by the number under which it is refused.
use Rattle.std.specs.Prelude.{ℕ, zero, suc, ◌+◌, Bool, true, false, cond, ◌&&◌, ◌||◌, List, [], ◌∷◌, Some, None, Option, ◌==◌, nat_eq, slice_index}
use Rattle.std.specs.List.{slice_get}
use Rattle.packed.specs.declared.constructor.Constructor.{Constructor}
use Rattle.packed.specs.Forms.{either}
use Rattle.table.specs.declared.function.Function.{Function}
use Rattle.table.specs.declared.row.Row.{Row}
use Rattle.table.specs.declared.row.Row.TheVariants as row
use Rattle.checker.specs.declared.kind.Kind.{Kind}
use Rattle.checker.specs.declared.kind.Kind.TheVariants as kind
use Rattle.checker.specs.declared.context.Context.{Context}
use Rattle.checker.specs.declared.context.Rule.{Rule}
use Rattle.checker.specs.declared.context.Rule.TheVariants as rule
use Rattle.checker.specs.Contexts.{at, used, fresh, is_in, all_fresh, kind_of, same_kind, is_nothing, is_at, frontier_at, parts}

-- what a table holds: constructors by number, functions, rows
pub record Program : Type 0 where
  pub forms : List Constructor
  pub functions : List Function
  pub rows : List Row

-- whether a name stands for a value of a kind as tables write it
abbrev pub has_kind : Option Kind → ℕ → Bool
has_kind None t = false
has_kind (Some k) t = same_kind k (kind_of t 0)

-- n variables from place i on, of the variables that a row names: whether all are in scope; whether they have the kinds
-- from place j on
abbrev pub all_used : Context → List ℕ → ℕ → ℕ → Bool
all_used c vs i zero = true
all_used c vs i (suc n) = used c.variables (slice_index vs i) && all_used c vs (i + 1) n

abbrev pub all_have : Context → List ℕ → ℕ → List ℕ → ℕ → ℕ → Bool
all_have c vs i ts j zero = true
all_have c vs i ts j (suc n) = has_kind (at c.variables (slice_index vs (i + j))) (slice_index ts j) && all_have c vs i ts (j + 1) n

abbrev pub four_integers : List ℕ
four_integers = 254 ∷ 254 ∷ 254 ∷ 254 ∷ []

abbrev pub both_integers : Context → ℕ → ℕ → Bool
both_integers c x y = has_kind (at c.variables x) 254 && has_kind (at c.variables y) 254

-- whether a variable in scope is a tree of type t at m
abbrev pub is_tree : ℕ → ℕ → Option Kind → Bool
is_tree t m None = false
is_tree t m (Some kind.Integer) = false
is_tree t m (Some (kind.Tree s l)) = s == t && l == m

abbrev pub any_tree : ℕ → ℕ → List (Option Kind) → Bool
any_tree t m [] = false
any_tree t m (k ∷ ks) = is_tree t m k || any_tree t m ks

abbrev pub same_rule : Rule → Rule → Bool
same_rule rule.Free rule.Free = true
same_rule rule.Free rule.Start = false
same_rule rule.Free (rule.Past m k) = false
same_rule rule.Free (rule.After m) = false
same_rule rule.Start rule.Free = false
same_rule rule.Start rule.Start = true
same_rule rule.Start (rule.Past m k) = false
same_rule rule.Start (rule.After m) = false
same_rule (rule.Past l j) rule.Free = false
same_rule (rule.Past l j) rule.Start = false
same_rule (rule.Past l j) (rule.Past m k) = l == m && j == k
same_rule (rule.Past l j) (rule.After m) = false
same_rule (rule.After l) rule.Free = false
same_rule (rule.After l) rule.Start = false
same_rule (rule.After l) (rule.Past m k) = false
same_rule (rule.After l) (rule.After m) = l == m

-- the location of a tree
abbrev pub place_of : Option Kind → Option ℕ
place_of None = None
place_of (Some kind.Integer) = None
place_of (Some (kind.Tree t l)) = Some l

-- whether a location is in scope and has this rule
abbrev pub has_rule : Context → ℕ → Rule → Bool
has_rule c m r = either (at c.locations m) false (λ p. same_rule p.rule r)

-- the location of a tree, where it has this rule
abbrev pub ruled_place : Context → Rule → Option Kind → Option ℕ
ruled_place c r k = either (place_of k) None (λ m. cond (has_rule c m r) (Some m) None)

-- The last location of n trees, from place i of the variables on, where the first has the rule r and each next one is
-- after the one before; `last` where there is none.
abbrev pub chained : Context → Rule → ℕ → List ℕ → ℕ → ℕ → Option ℕ
chained c r last vs i zero = Some last
chained c r last vs i (suc n) = either (ruled_place c r (at c.variables (slice_index vs i))) None (λ m. chained c (rule.After m) m vs (i + 1) n)

-- the constructor of the branch at row b, and the branch behind it, 0 for none
abbrev pub branch_form : Option Row → Option ℕ
branch_form None = None
branch_form (Some (row.Variable x)) = None
branch_form (Some (row.Number value)) = None
branch_form (Some (row.Sum x y)) = None
branch_form (Some (row.Difference x y)) = None
branch_form (Some (row.Region r room)) = None
branch_form (Some (row.Start l r)) = None
branch_form (Some (row.Past l m k)) = None
branch_form (Some (row.After l m t)) = None
branch_form (Some (row.Construct form l v0 v1 v2 v3 v4 v5 v6 v7)) = None
branch_form (Some (row.Let x k l body)) = None
branch_form (Some (row.Test x y other)) = None
branch_form (Some (row.Call f l v0 v1 v2 v3)) = None
branch_form (Some (row.Case x)) = None
branch_form (Some (row.Branch form x0 l0 next)) = Some form

abbrev pub branch_next : Option Row → ℕ
branch_next None = 0
branch_next (Some (row.Variable x)) = 0
branch_next (Some (row.Number value)) = 0
branch_next (Some (row.Sum x y)) = 0
branch_next (Some (row.Difference x y)) = 0
branch_next (Some (row.Region r room)) = 0
branch_next (Some (row.Start l r)) = 0
branch_next (Some (row.Past l m k)) = 0
branch_next (Some (row.After l m t)) = 0
branch_next (Some (row.Construct form l v0 v1 v2 v3 v4 v5 v6 v7)) = 0
branch_next (Some (row.Let x k l body)) = 0
branch_next (Some (row.Test x y other)) = 0
branch_next (Some (row.Call f l v0 v1 v2 v3)) = 0
branch_next (Some (row.Case x)) = 0
branch_next (Some (row.Branch form x0 l0 next)) = next

-- the branch that is due behind constructor i of these branches, where row b is due: if the constructor is of type t, the
-- branch at row b must be its own
abbrev pub advanced : List Row → ℕ → ℕ → Constructor → ℕ → Option ℕ
advanced rows t i f b = cond (f.of == t) (cond (either (branch_form (slice_get rows b)) false (λ k. nat_eq k i)) (Some (branch_next (slice_get rows b))) None) (Some b)

-- Whether the branches from row b on, 0 for none, are those of the constructors of type t among these, which are numbered
-- from i on: one each and in order.
abbrev pub covers : List Row → ℕ → ℕ → List Constructor → ℕ → Bool
covers rows t i [] b = b == 0
covers rows t i (f ∷ fs) b = either (advanced rows t i f b) false (covers rows t (i + 1) fs)

-- a tree whose type's constructors are those of the branches behind row n
abbrev pub takes_apart : Program → ℕ → Option Kind → Bool
takes_apart P n None = false
takes_apart P n (Some kind.Integer) = false
takes_apart P n (Some (kind.Tree t l)) = covers P.rows t 0 P.forms (n + 1)

module _ (P : Program) (c : Context) where
  -- a location for a result of this kind: none for an integer
  abbrev pub as_tree : ℕ → Bool → Bool
  as_tree t asked = t == 254 || asked

  -- A construct of a constructor at l, with these variables: its integers, then its trees, of which the first is past the
  -- head and each next one after the one before; the frontier is the last, or l where there is none.
  abbrev pub construct_names : ℕ → ℕ → List ℕ → Bool
  construct_names form l vs = used c.locations l && either (slice_get P.forms form) true (λ f. all_used c vs 0 (parts f))

  abbrev pub construct_kinds : ℕ → List ℕ → Bool
  construct_kinds form vs = either (slice_get P.forms form) false (λ f. all_have c vs 0 four_integers 0 f.fields.integers && all_have c vs f.fields.integers f.fields.types 0 f.fields.subtrees)

  abbrev pub construct_places : ℕ → ℕ → List ℕ → Bool
  construct_places form l vs = is_in c.progress.unwritten l && either (slice_get P.forms form) false (λ f. either (chained c (rule.Past l f.fields.integers) l vs f.fields.integers f.fields.subtrees) false (λ m. is_at m (frontier_at c l)))

  -- a call of a function with these variables; a tree that it gives goes to l, the frontier
  abbrev pub call_names : ℕ → ℕ → List ℕ → Bool
  call_names g l vs = either (slice_get P.functions g) true (λ f. all_used c vs 0 f.parameters && as_tree f.result (used c.locations l))

  abbrev pub call_kinds : ℕ → List ℕ → Bool
  call_kinds g vs = either (slice_get P.functions g) false (λ f. all_have c vs 0 f.kinds 0 f.parameters)

  abbrev pub call_places : ℕ → ℕ → Bool
  call_places g l = either (slice_get P.functions g) false (λ f. as_tree f.result (is_in c.progress.unwritten l && is_at l (frontier_at c l)))

  -- 31: names that are used are in scope, names that are bound are in range and not in scope
  abbrev pub names : Row → Bool
  names (row.Variable x) = used c.variables x
  names (row.Number value) = true
  names (row.Sum x y) = used c.variables x && used c.variables y
  names (row.Difference x y) = used c.variables x && used c.variables y
  names (row.Region r room) = fresh c.progress.frontiers r
  names (row.Start l r) = fresh c.locations l && used c.progress.frontiers r
  names (row.Past l m k) = fresh c.locations l && used c.locations m
  names (row.After l m t) = fresh c.locations l && used c.locations m
  names (row.Construct form l v0 v1 v2 v3 v4 v5 v6 v7) = construct_names form l (v0 ∷ v1 ∷ v2 ∷ v3 ∷ v4 ∷ v5 ∷ v6 ∷ v7 ∷ [])
  names (row.Let x t l body) = fresh c.variables x && as_tree t (used c.locations l)
  names (row.Test x y other) = used c.variables x && used c.variables y
  names (row.Call g l v0 v1 v2 v3) = call_names g l (v0 ∷ v1 ∷ v2 ∷ v3 ∷ [])
  names (row.Case x) = used c.variables x
  names (row.Branch form x0 l0 next) = either (slice_get P.forms form) true (λ f. all_fresh c.variables x0 0 (parts f) && all_fresh c.locations l0 0 f.fields.subtrees)

  -- 32: variables have the kinds that the row asks for; n is the row's number
  abbrev pub kinds : ℕ → Row → Bool
  kinds n (row.Variable x) = true
  kinds n (row.Number value) = true
  kinds n (row.Sum x y) = both_integers c x y
  kinds n (row.Difference x y) = both_integers c x y
  kinds n (row.Region r room) = true
  kinds n (row.Start l r) = true
  kinds n (row.Past l m k) = true
  kinds n (row.After l m t) = true
  kinds n (row.Construct form l v0 v1 v2 v3 v4 v5 v6 v7) = construct_kinds form (v0 ∷ v1 ∷ v2 ∷ v3 ∷ v4 ∷ v5 ∷ v6 ∷ v7 ∷ [])
  kinds n (row.Let x t l body) = true
  kinds n (row.Test x y other) = both_integers c x y
  kinds n (row.Call g l v0 v1 v2 v3) = call_kinds g (v0 ∷ v1 ∷ v2 ∷ v3 ∷ [])
  kinds n (row.Case x) = takes_apart P n (at c.variables x)
  kinds n (row.Branch form x0 l0 next) = true

  -- 33: a new location is got from the frontier of its region
  abbrev pub rules : Row → Bool
  rules (row.Variable x) = true
  rules (row.Number value) = true
  rules (row.Sum x y) = true
  rules (row.Difference x y) = true
  rules (row.Region r room) = true
  rules (row.Start l r) = is_nothing (at c.progress.frontiers r)
  rules (row.Past l m k) = is_in c.progress.unwritten m && is_at m (frontier_at c m)
  rules (row.After l m t) = is_at m (frontier_at c m) && any_tree t m c.variables
  rules (row.Construct form l v0 v1 v2 v3 v4 v5 v6 v7) = true
  rules (row.Let x t l body) = true
  rules (row.Test x y other) = true
  rules (row.Call g l v0 v1 v2 v3) = true
  rules (row.Case x) = true
  rules (row.Branch form x0 l0 next) = true

  -- 34: a tree is written where nothing is written yet, behind all that its region holds
  abbrev pub places : Row → Bool
  places (row.Variable x) = true
  places (row.Number value) = true
  places (row.Sum x y) = true
  places (row.Difference x y) = true
  places (row.Region r room) = true
  places (row.Start l r) = true
  places (row.Past l m k) = true
  places (row.After l m t) = true
  places (row.Construct form l v0 v1 v2 v3 v4 v5 v6 v7) = construct_places form l (v0 ∷ v1 ∷ v2 ∷ v3 ∷ v4 ∷ v5 ∷ v6 ∷ v7 ∷ [])
  places (row.Let x t l body) = as_tree t (is_in c.progress.unwritten l)
  places (row.Test x y other) = true
  places (row.Call g l v0 v1 v2 v3) = call_places g l
  places (row.Case x) = true
  places (row.Branch form x0 l0 next) = true
