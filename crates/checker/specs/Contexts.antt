-- Contexts: what is in scope, how far regions are written, and how a row changes these.
use Rattle.std.specs.Prelude.{ℕ, zero, suc, ◌+◌, ◌-◌, Bool, true, false, cond, ◌&&◌, List, set, replicate, Some, None, Option, ◌==◌, nat_le, nat_lt, slice_index, slice_set}
use Rattle.std.specs.List.{slice_get}
use Rattle.packed.specs.declared.constructor.Constructor.{Constructor}
use Rattle.packed.specs.Forms.{either}
use Rattle.table.specs.declared.function.Function.{Function}
use Rattle.checker.specs.declared.kind.Kind.{Kind}
use Rattle.checker.specs.declared.kind.Kind.TheVariants as kind
use Rattle.checker.specs.declared.context.Context.{Context}
use Rattle.checker.specs.declared.context.Progress.{Progress}
use Rattle.checker.specs.declared.context.Location.{Location}
use Rattle.checker.specs.declared.context.Rule.TheVariants as rule
use Rattle.checker.specs.declared.context.Frontier.{Frontier}
use Rattle.checker.specs.declared.context.Frontier.TheVariants as frontier

-- Tables by name. A name in range stands for something, or for nothing.

-- what a name stands for
abbrev pub at : {X : Type 0} → List (Option X) → ℕ → Option X
at xs n = either (slice_get xs n) None (λ o. o)

-- whether a name stands for something
abbrev pub used : {X : Type 0} → List (Option X) → ℕ → Bool
used xs n = either (at xs n) false (λ x. true)

-- whether a name is in range and stands for nothing
abbrev pub fresh : {X : Type 0} → List (Option X) → ℕ → Bool
fresh xs n = either (slice_get xs n) false (λ o. either o true (λ x. false))

abbrev pub is_in : List Bool → ℕ → Bool
is_in names n = either (slice_get names n) false (λ b. b)

-- the same of names in a row: n of them from name x + i on, where the one numbered i stands for v i, or for nothing
abbrev pub all_fresh : {X : Type 0} → List (Option X) → ℕ → ℕ → ℕ → Bool
all_fresh xs x i zero = true
all_fresh xs x i (suc n) = fresh xs (x + i) && all_fresh xs x (i + 1) n

abbrev pub entered_names : {X : Type 0} → List X → ℕ → (ℕ → X) → ℕ → ℕ → List X
entered_names xs x v i zero = xs
entered_names xs x v i (suc n) = entered_names (slice_set xs (x + i) (v i)) x v (i + 1) n

abbrev pub fill : {X : Type 0} → List (Option X) → ℕ → (ℕ → X) → ℕ → ℕ → List (Option X)
fill xs x v = entered_names xs x (λ i. Some (v i))

abbrev pub clear : {X : Type 0} → List (Option X) → ℕ → ℕ → ℕ → List (Option X)
clear xs x = entered_names xs x (λ i. None)

-- Kinds.

-- a kind as tables write it, 254 for an integer, with the location where a tree of it lies
abbrev pub kind_of : ℕ → ℕ → Kind
kind_of t l = cond (t == 254) kind.Integer (kind.Tree t l)

-- whether two kinds are the same, wherever trees lie
abbrev pub same_kind : Kind → Kind → Bool
same_kind kind.Integer kind.Integer = true
same_kind kind.Integer (kind.Tree t l) = false
same_kind (kind.Tree s m) kind.Integer = false
same_kind (kind.Tree s m) (kind.Tree t l) = s == t

-- whether a value is a tree at one of n locations from l on
abbrev pub lies_within : Kind → ℕ → ℕ → Bool
lies_within kind.Integer l n = false
lies_within (kind.Tree t m) l n = nat_le l m && nat_lt m (l + n)

-- whether a value is an integer, or a tree at l
abbrev pub lies_at : Kind → ℕ → Bool
lies_at kind.Integer l = true
lies_at (kind.Tree t m) l = m == l

-- The frontier of a region: A.

abbrev pub is_nothing : Option Frontier → Bool
is_nothing None = false
is_nothing (Some frontier.Nothing) = true
is_nothing (Some (frontier.At l)) = false
is_nothing (Some frontier.Shut) = false

-- whether a frontier is one of n locations from l on
abbrev pub is_within : ℕ → ℕ → Option Frontier → Bool
is_within l n None = false
is_within l n (Some frontier.Nothing) = false
is_within l n (Some (frontier.At m)) = nat_le l m && nat_lt m (l + n)
is_within l n (Some frontier.Shut) = false

abbrev pub is_at : ℕ → Option Frontier → Bool
is_at l None = false
is_at l (Some frontier.Nothing) = false
is_at l (Some (frontier.At m)) = m == l
is_at l (Some frontier.Shut) = false

-- the region of a location, if it is in scope and lies in one that has a name
abbrev pub region_of : Context → ℕ → Option ℕ
region_of c l = either (at c.locations l) None (λ p. p.region)

abbrev pub frontier_in : Progress → Option ℕ → Option Frontier
frontier_in p r = either r None (at p.frontiers)

-- A of the region in which a location lies
abbrev pub frontier_at : Context → ℕ → Option Frontier
frontier_at c l = frontier_in c.progress (region_of c l)

-- Changes.

abbrev pub with_variables : Context → List (Option Kind) → Context
with_variables c xs = record { variables = xs; locations = c.locations; progress = c.progress }

abbrev pub with_locations : Context → List (Option Location) → Context
with_locations c ls = record { variables = c.variables; locations = ls; progress = c.progress }

abbrev pub with_progress : Context → Progress → Context
with_progress c p = record { variables = c.variables; locations = c.locations; progress = p }

abbrev pub with_variable : Context → ℕ → Option Kind → Context
with_variable c x k = with_variables c (slice_set c.variables x k)

abbrev pub with_location : Context → ℕ → Option Location → Context
with_location c l p = with_locations c (slice_set c.locations l p)

abbrev pub with_frontier : Progress → Option ℕ → Option Frontier → Progress
with_frontier p r f = record { frontiers = either r p.frontiers (λ s. set p.frontiers s f); unwritten = p.unwritten }

abbrev pub with_unwritten : Progress → ℕ → Bool → Progress
with_unwritten p l b = record { frontiers = p.frontiers; unwritten = slice_set p.unwritten l b }

-- a region comes into scope, with nothing written, and leaves it
abbrev pub opened : Context → ℕ → Context
opened c r = with_progress c (with_frontier c.progress (Some r) (Some frontier.Nothing))

abbrev pub closed : Context → ℕ → Context
closed c r = with_progress c (with_frontier c.progress (Some r) None)

-- a new location comes into scope: not yet written, and the frontier of its region
abbrev pub placed : Context → ℕ → Location → Context
placed c l p = with_location (with_progress c (with_frontier (with_unwritten c.progress l true) p.region (Some (frontier.At l)))) l (Some p)

-- the tree at a location is written, up to which its region now is
abbrev pub written : Context → ℕ → Context
written c l = with_progress c (with_frontier (with_unwritten c.progress l false) (region_of c l) (Some (frontier.At l)))

-- n locations from l on leave scope: a region whose frontier is one of them is shut
abbrev pub shutting : Progress → Option ℕ → ℕ → ℕ → Progress
shutting p r l n = cond (is_within l n (frontier_in p r)) (with_frontier p r (Some frontier.Shut)) p

abbrev pub left : Context → ℕ → Context
left c l = with_location (with_progress c (shutting c.progress (region_of c l) l 1)) l None

-- A branch takes a tree of a constructor apart: its integers, then its subtrees, which lie at l and the locations behind
-- it, all in the region of the whole tree.
abbrev pub part : Constructor → ℕ → ℕ → Kind
part f l i = cond (nat_lt i f.fields.integers) kind.Integer (kind.Tree (slice_index f.fields.types (i - f.fields.integers)) (l + (i - f.fields.integers)))

abbrev pub parts : Constructor → ℕ
parts f = f.fields.integers + f.fields.subtrees

abbrev pub parted : Context → Option ℕ → Constructor → ℕ → ℕ → Context
parted c r f x l = record {
  variables = fill c.variables x (part f l) 0 (parts f);
  locations = fill c.locations l (λ i. record { region = r; rule = rule.Free }) 0 f.fields.subtrees;
  progress = c.progress;
}

abbrev pub unparted : Context → Option ℕ → Constructor → ℕ → ℕ → Context
unparted c r f x l = record {
  variables = clear c.variables x 0 (parts f);
  locations = clear c.locations l 0 f.fields.subtrees;
  progress = shutting c.progress r l f.fields.subtrees;
}

-- Functions.

-- nothing in scope
abbrev pub blank : Context
blank = record { variables = replicate 32 None; locations = replicate 32 None; progress = record { frontiers = replicate 16 None; unwritten = replicate 32 false } }

-- parameter j, of a kind as tables write it: a tree lies at location j + 1, in no region that has a name
abbrev pub parameter : Context → ℕ → ℕ → Context
parameter c j t = with_variable (cond (t == 254) c (with_location c (j + 1) (Some (record { region = None; rule = rule.Free })))) j (Some (kind_of t (j + 1)))

abbrev pub entered : Context → List ℕ → ℕ → ℕ → Context
entered c ts j zero = c
entered c ts j (suc n) = entered (parameter c j (slice_index ts j)) ts (j + 1) n

-- the context of a function's body: a tree result has location 0 in region 0, not yet written
abbrev pub begun : Function → Context
begun f = entered (cond (f.result == 254) blank (placed blank 0 (record { region = Some 0; rule = rule.Free }))) f.kinds 0 f.parameters
