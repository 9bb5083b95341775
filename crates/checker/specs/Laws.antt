-- Laws of the check and of the typing rules, in words of their own.
use Rattle.std.specs.Prelude.{◌≡◌, ℕ, ◌+◌, ◌<◌, ◌≤◌, true, List, [], ◌∷◌, length, Some, ◌≢◌, slice_index}
use Rattle.std.specs.List.{slice_get}
use Rattle.packed.specs.declared.constructor.Constructor.{Constructor}
use Rattle.packed.specs.declared.fault.Fault.{Fault}
use Rattle.packed.specs.Faults.{number_of}
use Rattle.table.specs.declared.function.Function.{Function}
use Rattle.table.specs.declared.row.Row.{Row}
use Rattle.table.specs.declared.row.Row.TheVariants as row
use Rattle.table.specs.declared.section.Layout.{Layout}
use Rattle.checker.specs.declared.kind.Kind.{Kind}
use Rattle.checker.specs.declared.kind.Kind.TheVariants as kind
use Rattle.checker.specs.declared.context.Context.{Context}
use Rattle.checker.specs.declared.context.Location.{Location}
use Rattle.checker.specs.declared.context.Frontier.TheVariants as frontier
use Rattle.checker.specs.Contexts.{at, used, is_in, kind_of, same_kind, frontier_in, placed, left, parts, begun}
use Rattle.checker.specs.Conditions.{Program}
use Rattle.checker.specs.Rules.{Typed, WellTyped}
use Rattle.checker.specs.First.{Locates}

-- a fault of a table's functions is one of the typing rules', at a row of the table
pub record RuleNamed (bs : List ℕ) (l : Layout) (f : Fault) : Type 0 where
  pub layer : f.layer ≡ 3
  pub low : 31 ≤ number_of f.reason
  pub high : number_of f.reason ≤ 36
  pub place : f.place < l.rows.count

-- RowNumber r m: the row r holds the row number m, of a child or of the branch behind it.
pub data RowNumber : Row → ℕ → Type 0 where
  of_let : {x t l m : ℕ} → RowNumber (row.Let x t l m) m
  of_test : {x y m : ℕ} → RowNumber (row.Test x y m) m
  of_branch : {form x l m : ℕ} → 0 < m → RowNumber (row.Branch form x l m) m

-- Operand r x: the row r computes with the integer x.
pub data Operand : Row → ℕ → Type 0 where
  sum_left : {x y : ℕ} → Operand (row.Sum x y) x
  sum_right : {x y : ℕ} → Operand (row.Sum x y) y
  difference_left : {x y : ℕ} → Operand (row.Difference x y) x
  difference_right : {x y : ℕ} → Operand (row.Difference x y) y
  test_left : {x y m : ℕ} → Operand (row.Test x y m) x
  test_right : {x y m : ℕ} → Operand (row.Test x y m) y

-- UsesVariable P r x, UsesLocation P r l, UsesRegion r s: the row r uses this name, which another row bound.
pub data UsesVariable (P : Program) : Row → ℕ → Type 0 where
  read : {x : ℕ} → UsesVariable P (row.Variable x) x
  operand : {r : Row} {x : ℕ} → Operand r x → UsesVariable P r x
  apart : {x : ℕ} → UsesVariable P (row.Case x) x
  part : {form l v0 v1 v2 v3 v4 v5 v6 v7 i : ℕ} {f : Constructor} → slice_get P.forms form ≡ Some f → i < parts f → UsesVariable P (row.Construct form l v0 v1 v2 v3 v4 v5 v6 v7) (slice_index (v0 ∷ v1 ∷ v2 ∷ v3 ∷ v4 ∷ v5 ∷ v6 ∷ v7 ∷ []) i)
  argument : {g l v0 v1 v2 v3 i : ℕ} {f : Function} → slice_get P.functions g ≡ Some f → i < f.parameters → UsesVariable P (row.Call g l v0 v1 v2 v3) (slice_index (v0 ∷ v1 ∷ v2 ∷ v3 ∷ []) i)

pub data UsesLocation (P : Program) : Row → ℕ → Type 0 where
  behind_head : {l m k : ℕ} → UsesLocation P (row.Past l m k) m
  behind_tree : {l m t : ℕ} → UsesLocation P (row.After l m t) m
  built : {form l v0 v1 v2 v3 v4 v5 v6 v7 : ℕ} → UsesLocation P (row.Construct form l v0 v1 v2 v3 v4 v5 v6 v7) l
  bound : {x t l m : ℕ} → (t ≢ 254) → UsesLocation P (row.Let x t l m) l
  given : {g l v0 v1 v2 v3 : ℕ} {f : Function} → slice_get P.functions g ≡ Some f → (f.result ≢ 254) → UsesLocation P (row.Call g l v0 v1 v2 v3) l

pub data UsesRegion : Row → ℕ → Type 0 where
  opened : {l s : ℕ} → UsesRegion (row.Start l s) s

-- a variable in scope is of a kind as tables write it, wherever a tree lies
pub record Holds (c : Context) (x t : ℕ) : Type 0 where
  pub kind : Kind
  pub is : at c.variables x ≡ Some kind
  pub same : same_kind kind (kind_of t 0) ≡ true

-- A row that bound a location, with what hangs on it, leaves e: its child left `inner`; the location is out of scope
-- behind it, and a region that was written up to there is shut.
pub record Leaves (P : Program) (c : Context) (n l : ℕ) (p : Location) (k : Kind) (e : Context) : Type 0 where
  pub inner : Context
  pub child : Typed P (placed c l p) (n + 1) k inner
  pub behind : e ≡ left inner l
  pub shut : (s : ℕ) → p.region ≡ Some s → frontier_in inner.progress (Some s) ≡ Some (frontier.At l) → frontier_in e.progress (Some s) ≡ Some frontier.Shut

-- a body that ends as its function says: with a value of its kind, with nothing in scope but what was at its start, and
-- where the value is a tree, with region 0 written up to location 0, where the tree lies
pub record Ends (P : Program) (f : Function) : Type 0 where
  pub end : Context
  pub typed : Typed P (begun f) f.first (kind_of f.result 0) end
  pub scope : (end.variables ≡ (begun f).variables) × (end.locations ≡ (begun f).locations)
  pub full : (f.result ≢ 254) → frontier_in end.progress (Some 0) ≡ Some (frontier.At 0)

-- every name stands for the same in two contexts, and is in range in both or in none
pub record Agree (c d : Context) : Type 0 where
  pub variable_range : length c.variables ≡ length d.variables
  pub location_range : length c.locations ≡ length d.locations
  pub region_range : length c.progress.frontiers ≡ length d.progress.frontiers
  pub unwritten_range : length c.progress.unwritten ≡ length d.progress.unwritten
  pub variables : (x : ℕ) → at c.variables x ≡ at d.variables x
  pub locations : (l : ℕ) → at c.locations l ≡ at d.locations l
  pub regions : (r : ℕ) → at c.progress.frontiers r ≡ at d.progress.frontiers r
  pub unwritten : (l : ℕ) → is_in c.progress.unwritten l ≡ is_in d.progress.unwritten l

pub record Laws (P : Program) : Type 0 where
  -- every name that a row uses is in scope
  pub variables : {c d : Context} {n x : ℕ} {r : Row} {k : Kind} → Typed P c n k d → slice_get P.rows n ≡ Some r → UsesVariable P r x → used c.variables x ≡ true
  pub locations : {c d : Context} {n l : ℕ} {r : Row} {k : Kind} → Typed P c n k d → slice_get P.rows n ≡ Some r → UsesLocation P r l → used c.locations l ≡ true
  pub regions : {c d : Context} {n s : ℕ} {r : Row} {k : Kind} → Typed P c n k d → slice_get P.rows n ≡ Some r → UsesRegion r s → used c.progress.frontiers s ≡ true
  -- kinds agree: of operands, arguments, the parts of a tree that is built, and what a case takes apart
  pub operands : {c d : Context} {n x : ℕ} {r : Row} {k : Kind} → Typed P c n k d → slice_get P.rows n ≡ Some r → Operand r x → at c.variables x ≡ Some kind.Integer
  pub arguments : {c d : Context} {n g l v0 v1 v2 v3 : ℕ} {f : Function} {k : Kind} → Typed P c n k d → slice_get P.rows n ≡ Some (row.Call g l v0 v1 v2 v3) → slice_get P.functions g ≡ Some f → (i : ℕ) → i < f.parameters → Holds c (slice_index (v0 ∷ v1 ∷ v2 ∷ v3 ∷ []) i) (slice_index f.kinds i)
  pub integers : {c d : Context} {n form l v0 v1 v2 v3 v4 v5 v6 v7 : ℕ} {f : Constructor} {k : Kind} → Typed P c n k d → slice_get P.rows n ≡ Some (row.Construct form l v0 v1 v2 v3 v4 v5 v6 v7) → slice_get P.forms form ≡ Some f → (i : ℕ) → i < f.fields.integers → i < 4 → at c.variables (slice_index (v0 ∷ v1 ∷ v2 ∷ v3 ∷ v4 ∷ v5 ∷ v6 ∷ v7 ∷ []) i) ≡ Some kind.Integer
  pub subtrees : {c d : Context} {n form l v0 v1 v2 v3 v4 v5 v6 v7 : ℕ} {f : Constructor} {k : Kind} → Typed P c n k d → slice_get P.rows n ≡ Some (row.Construct form l v0 v1 v2 v3 v4 v5 v6 v7) → slice_get P.forms form ≡ Some f → (i : ℕ) → i < f.fields.subtrees → Holds c (slice_index (v0 ∷ v1 ∷ v2 ∷ v3 ∷ v4 ∷ v5 ∷ v6 ∷ v7 ∷ []) (f.fields.integers + i)) (slice_index f.fields.types i)
  pub tree : {c d : Context} {n x : ℕ} {k : Kind} → Typed P c n k d → slice_get P.rows n ≡ Some (row.Case x) → (t : ℕ) × (l : ℕ) × (at c.variables x ≡ Some (kind.Tree t l))
  -- what is in scope behind a row is what was in scope before it
  pub scope : {c d : Context} {n : ℕ} {k : Kind} → Typed P c n k d → (d.variables ≡ c.variables) × (d.locations ≡ c.locations)
  -- what a row gives and leaves is determined by what the names of its context stand for, which is all that a context is
  pub agreed : (c d : Context) → Agree c d → c ≡ d
  pub determined : {c d e : Context} {n : ℕ} {k j : Kind} → Typed P c n k d → Typed P c n j e → (k ≡ j) × (d ≡ e)
  -- a region that is shut stays so as long as it is in scope; one that is written up to a location is shut where that leaves scope
  pub shut : {c d : Context} {n : ℕ} {k : Kind} → Typed P c n k d → (r : ℕ) → frontier_in c.progress (Some r) ≡ Some frontier.Shut → frontier_in d.progress (Some r) ≡ Some frontier.Shut
  pub leaves : {c e : Context} {n l : ℕ} {r : Row} {p : Location} {k : Kind} → Typed P c n k e → slice_get P.rows n ≡ Some r → Locates c r l p → Leaves P c n l p k e
  -- each function's end
  pub ends : WellTyped P → (i : ℕ) (f : Function) → slice_get P.functions i ≡ Some f → Ends P f
