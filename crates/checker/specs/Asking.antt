-- What a row asks before its children, in the words of the rules: facts on what names stand for, and no loop. `Worded` says that
-- these are the conditions that the check computes.
use Rattle.std.specs.Prelude.{◌≡◌, ℕ, suc, ◌+◌, ◌<◌, ◌≤◌, Bool, true, List, [], ◌∷◌, Some, None, Option, ◌≢◌, slice_index}
use Rattle.std.specs.List.{slice_get}
use Rattle.packed.specs.declared.constructor.Constructor.{Constructor}
use Rattle.table.specs.declared.function.Function.{Function}
use Rattle.table.specs.declared.row.Row.{Row}
use Rattle.table.specs.declared.row.Row.TheVariants as row
use Rattle.checker.specs.declared.kind.Kind.{Kind}
use Rattle.checker.specs.declared.kind.Kind.TheVariants as kind
use Rattle.checker.specs.declared.context.Context.{Context}
use Rattle.checker.specs.declared.context.Location.{Location}
use Rattle.checker.specs.declared.context.Rule.{Rule}
use Rattle.checker.specs.declared.context.Rule.TheVariants as rule
use Rattle.checker.specs.declared.context.Frontier.TheVariants as frontier
use Rattle.checker.specs.Contexts.{at, frontier_at, parts}
use Rattle.checker.specs.Conditions.{Program}
use Rattle.checker.specs.Rules.{Asked}

-- a name stands for something; is in range and stands for nothing; is one of a set
abbrev pub Used : {X : Type 0} → List (Option X) → ℕ → Type 0
Used {X} xs x = (v : X) × (at xs x ≡ Some v)

abbrev pub Free : {X : Type 0} → List (Option X) → ℕ → Type 0
Free xs x = slice_get xs x ≡ Some None

abbrev pub In : List Bool → ℕ → Type 0
In names l = slice_get names l ≡ Some true

-- a value of a kind as tables write it: 254 for an integer, else the type of a tree, wherever it lies
pub data Has (o : Option Kind) (t : ℕ) : Type 0 where
  integer : o ≡ Some kind.Integer → t ≡ 254 → Has o t
  tree : {l : ℕ} → o ≡ Some (kind.Tree t l) → (t ≢ 254) → Has o t

-- Trees one behind the other: Chain c vs r first i n last says that the variables at n places from i on, of those that a row
-- names, are trees, that the first of these lies at a location with the rule r, each next one at a location after the one
-- before, and the last one at `last`, which is `first` where there is none.
pub data Chain (c : Context) (vs : List ℕ) : Rule → ℕ → ℕ → ℕ → ℕ → Type 0 where
  ended : {r : Rule} {first i : ℕ} → Chain c vs r first i 0 first
  longer : {r : Rule} {first i n last t m : ℕ} {p : Location} → at c.variables (slice_index vs i) ≡ Some (kind.Tree t m) → at c.locations m ≡ Some p → p.rule ≡ r → Chain c vs (rule.After m) m (i + 1) n last → Chain c vs r first i (suc n) last

-- Covered rows t i fs b: the branches from row b on, 0 for none, are those of the constructors of type t among fs, which are
-- numbered from i on: one each and in order.
pub data Covered (rows : List Row) (t : ℕ) : ℕ → List Constructor → ℕ → Type 0 where
  no_more : {i b : ℕ} → b ≡ 0 → Covered rows t i [] b
  of_another : {i b : ℕ} {f : Constructor} {fs : List Constructor} → (f.of ≢ t) → Covered rows t (i + 1) fs b → Covered rows t i (f ∷ fs) b
  of_it : {i b x l m : ℕ} {f : Constructor} {fs : List Constructor} → f.of ≡ t → slice_get rows b ≡ Some (row.Branch i x l m) → Covered rows t (i + 1) fs m → Covered rows t i (f ∷ fs) b

-- n names from x on are free
abbrev pub AllFree : {X : Type 0} → List (Option X) → ℕ → ℕ → Type 0
AllFree xs x n = (i : ℕ) → i < n → Free xs (x + i)

-- Integer i of a constructor. Tables have no constructor of more than four; what the check would ask of a fifth is a tree of
-- type 0.
abbrev pub IntegerPart : ℕ → Option Kind → Type 0
IntegerPart i o = (i < 4 → o ≡ Some kind.Integer) × (4 ≤ i → Has o 0)

module _ (c : Context) where
  -- the first n of the variables that a row names are in scope
  abbrev pub AllUsed : List ℕ → ℕ → Type 0
  AllUsed vs n = (i : ℕ) → i < n → Used c.variables (slice_index vs i)

  -- two integers
  abbrev pub Integers : ℕ → ℕ → Type 0
  Integers x y = (at c.variables x ≡ Some kind.Integer) × (at c.variables y ≡ Some kind.Integer)

module _ (P : Program) (c : Context) where
  -- A construct of a constructor at l with these variables: its integers, then its trees, of which the first is past the head
  -- and each next one after the one before; the frontier is the last, or l where there is none.
  abbrev pub ConstructNamed : ℕ → ℕ → List ℕ → Type 0
  ConstructNamed form l vs = Used c.locations l × ((f : Constructor) → slice_get P.forms form ≡ Some f → AllUsed c vs (parts f))

  abbrev pub ConstructKinded : ℕ → List ℕ → Type 0
  ConstructKinded form vs = (f : Constructor) × (slice_get P.forms form ≡ Some f) × (((i : ℕ) → i < f.fields.integers → IntegerPart i (at c.variables (slice_index vs i))) × ((j : ℕ) → j < f.fields.subtrees → Has (at c.variables (slice_index vs (f.fields.integers + j))) (slice_index f.fields.types j)))

  abbrev pub ConstructPlaced : ℕ → ℕ → List ℕ → Type 0
  ConstructPlaced form l vs = In c.progress.unwritten l × ((f : Constructor) × (slice_get P.forms form ≡ Some f) × ((last : ℕ) × Chain c vs (rule.Past l f.fields.integers) l f.fields.integers f.fields.subtrees last × (frontier_at c l ≡ Some (frontier.At last))))

  -- a call of a function with these variables; a tree that it gives goes to l, the frontier
  abbrev pub CallNamed : ℕ → ℕ → List ℕ → Type 0
  CallNamed g l vs = (f : Function) → slice_get P.functions g ≡ Some f → AllUsed c vs f.parameters × ((f.result ≢ 254) → Used c.locations l)

  abbrev pub CallKinded : ℕ → List ℕ → Type 0
  CallKinded g vs = (f : Function) × (slice_get P.functions g ≡ Some f) × ((j : ℕ) → j < f.parameters → Has (at c.variables (slice_index vs j)) (slice_index f.kinds j))

  abbrev pub CallPlaced : ℕ → ℕ → Type 0
  CallPlaced g l = (f : Function) × (slice_get P.functions g ≡ Some f) × ((f.result ≢ 254) → In c.progress.unwritten l × (frontier_at c l ≡ Some (frontier.At l)))

  abbrev pub BranchNamed : ℕ → ℕ → ℕ → Type 0
  BranchNamed form x l = (f : Constructor) → slice_get P.forms form ≡ Some f → AllFree c.variables x (parts f) × AllFree c.locations l f.fields.subtrees

  -- 31: names that are used are in scope, names that are bound are in range and not in scope
  abbrev pub Named : Row → Type 0
  Named (row.Variable x) = Used c.variables x
  Named (row.Number value) = Unit {0}
  Named (row.Sum x y) = Used c.variables x × Used c.variables y
  Named (row.Difference x y) = Used c.variables x × Used c.variables y
  Named (row.Region r room) = Free c.progress.frontiers r
  Named (row.Start l r) = Free c.locations l × Used c.progress.frontiers r
  Named (row.Past l m k) = Free c.locations l × Used c.locations m
  Named (row.After l m t) = Free c.locations l × Used c.locations m
  Named (row.Construct form l v0 v1 v2 v3 v4 v5 v6 v7) = ConstructNamed form l (v0 ∷ v1 ∷ v2 ∷ v3 ∷ v4 ∷ v5 ∷ v6 ∷ v7 ∷ [])
  Named (row.Let x t l body) = Free c.variables x × ((t ≢ 254) → Used c.locations l)
  Named (row.Test x y other) = Used c.variables x × Used c.variables y
  Named (row.Call g l v0 v1 v2 v3) = CallNamed g l (v0 ∷ v1 ∷ v2 ∷ v3 ∷ [])
  Named (row.Case x) = Used c.variables x
  Named (row.Branch form x0 l0 next) = BranchNamed form x0 l0

  -- 32: variables have the kinds that the row asks for; n is the row's number
  abbrev pub Kinded : ℕ → Row → Type 0
  Kinded n (row.Variable x) = Unit {0}
  Kinded n (row.Number value) = Unit {0}
  Kinded n (row.Sum x y) = Integers c x y
  Kinded n (row.Difference x y) = Integers c x y
  Kinded n (row.Region r room) = Unit {0}
  Kinded n (row.Start l r) = Unit {0}
  Kinded n (row.Past l m k) = Unit {0}
  Kinded n (row.After l m t) = Unit {0}
  Kinded n (row.Construct form l v0 v1 v2 v3 v4 v5 v6 v7) = ConstructKinded form (v0 ∷ v1 ∷ v2 ∷ v3 ∷ v4 ∷ v5 ∷ v6 ∷ v7 ∷ [])
  Kinded n (row.Let x t l body) = Unit {0}
  Kinded n (row.Test x y other) = Integers c x y
  Kinded n (row.Call g l v0 v1 v2 v3) = CallKinded g (v0 ∷ v1 ∷ v2 ∷ v3 ∷ [])
  Kinded n (row.Case x) = (t : ℕ) × (l : ℕ) × (at c.variables x ≡ Some (kind.Tree t l)) × Covered P.rows t 0 P.forms (n + 1)
  Kinded n (row.Branch form x0 l0 next) = Unit {0}

  -- 33: a new location is got from the frontier of its region
  abbrev pub Fronted : Row → Type 0
  Fronted (row.Variable x) = Unit {0}
  Fronted (row.Number value) = Unit {0}
  Fronted (row.Sum x y) = Unit {0}
  Fronted (row.Difference x y) = Unit {0}
  Fronted (row.Region r room) = Unit {0}
  Fronted (row.Start l r) = at c.progress.frontiers r ≡ Some frontier.Nothing
  Fronted (row.Past l m k) = In c.progress.unwritten m × (frontier_at c m ≡ Some (frontier.At m))
  Fronted (row.After l m t) = (frontier_at c m ≡ Some (frontier.At m)) × ((x : ℕ) × (at c.variables x ≡ Some (kind.Tree t m)))
  Fronted (row.Construct form l v0 v1 v2 v3 v4 v5 v6 v7) = Unit {0}
  Fronted (row.Let x t l body) = Unit {0}
  Fronted (row.Test x y other) = Unit {0}
  Fronted (row.Call g l v0 v1 v2 v3) = Unit {0}
  Fronted (row.Case x) = Unit {0}
  Fronted (row.Branch form x0 l0 next) = Unit {0}

  -- 34: a tree is written where nothing is written yet, behind all that its region holds
  abbrev pub Placed : Row → Type 0
  Placed (row.Variable x) = Unit {0}
  Placed (row.Number value) = Unit {0}
  Placed (row.Sum x y) = Unit {0}
  Placed (row.Difference x y) = Unit {0}
  Placed (row.Region r room) = Unit {0}
  Placed (row.Start l r) = Unit {0}
  Placed (row.Past l m k) = Unit {0}
  Placed (row.After l m t) = Unit {0}
  Placed (row.Construct form l v0 v1 v2 v3 v4 v5 v6 v7) = ConstructPlaced form l (v0 ∷ v1 ∷ v2 ∷ v3 ∷ v4 ∷ v5 ∷ v6 ∷ v7 ∷ [])
  Placed (row.Let x t l body) = (t ≢ 254) → In c.progress.unwritten l
  Placed (row.Test x y other) = Unit {0}
  Placed (row.Call g l v0 v1 v2 v3) = CallPlaced g l
  Placed (row.Case x) = Unit {0}
  Placed (row.Branch form x0 l0 next) = Unit {0}

-- all that a row asks before its children
pub record Asks (P : Program) (c : Context) (n : ℕ) (r : Row) : Type 0 where
  pub scope : Named P c r
  pub kind : Kinded P c n r
  pub frontier : Fronted P c r
  pub place : Placed P c r

-- the conditions that the check computes are these
abbrev pub Worded : Program → Type 0
Worded P = (c : Context) (n : ℕ) (r : Row) → (Asked P c n r → Asks P c n r) × (Asks P c n r → Asked P c n r)
