-- The typing rules, as a relation on row numbers: one rule for each kind of row.
use Rattle.std.specs.Prelude.{◌≡◌, ℕ, ◌+◌, ◌<◌, true, false, cond, ℤ, Some, None, Option, ◌==◌, ◌≢◌}
use Rattle.std.specs.List.{slice_get}
use Rattle.packed.specs.declared.constructor.Constructor.{Constructor}
use Rattle.table.specs.declared.function.Function.{Function}
use Rattle.table.specs.declared.row.Row.{Row}
use Rattle.table.specs.declared.row.Row.TheVariants as row
use Rattle.checker.specs.declared.kind.Kind.{Kind}
use Rattle.checker.specs.declared.kind.Kind.TheVariants as kind
use Rattle.checker.specs.declared.context.Context.{Context}
use Rattle.checker.specs.declared.context.Rule.TheVariants as rule
use Rattle.checker.specs.declared.context.Frontier.TheVariants as frontier
use Rattle.checker.specs.Contexts.{at, is_in, kind_of, lies_within, region_of, frontier_in, with_variable, opened, closed, placed, written, left, parted, unparted, begun}
use Rattle.checker.specs.Conditions.{Program, names, kinds, rules, places}

-- all that a row asks before its children
pub record Asked (P : Program) (c : Context) (n : ℕ) (r : Row) : Type 0 where
  pub scope : names P c r ≡ true
  pub kind : kinds P c n r ≡ true
  pub frontier : rules P c r ≡ true
  pub place : places P c r ≡ true

-- a child behind which location l leaves scope: l is written, and the value is not there
pub record Settled (l : ℕ) (k : Kind) (d : Context) : Type 0 where
  pub written : is_in d.progress.unwritten l ≡ false
  pub elsewhere : lies_within k l 1 ≡ false

-- Typed P c n k d: in the context c, row n and what hangs on it give a value of kind k and leave the context d.
-- Arms P c r n k d: so do all branches from row n on, of a case on a tree in region r; each starts in the same context, and
-- all end alike. Branch P c r n k d m: so does the branch at row n, which names row m for the branch behind it.
mutual
  pub data Typed (P : Program) : Context → ℕ → Kind → Context → Type 0 where
    variable : {c : Context} {n x : ℕ} {k : Kind} → slice_get P.rows n ≡ Some (row.Variable x) → Asked P c n (row.Variable x) → at c.variables x ≡ Some k → Typed P c n k c
    number : {c : Context} {n : ℕ} {value : ℤ} → slice_get P.rows n ≡ Some (row.Number value) → Asked P c n (row.Number value) → Typed P c n kind.Integer c
    sum : {c : Context} {n x y : ℕ} → slice_get P.rows n ≡ Some (row.Sum x y) → Asked P c n (row.Sum x y) → Typed P c n kind.Integer c
    difference : {c : Context} {n x y : ℕ} → slice_get P.rows n ≡ Some (row.Difference x y) → Asked P c n (row.Difference x y) → Typed P c n kind.Integer c
    region : {c d : Context} {n r room : ℕ} {k : Kind} → slice_get P.rows n ≡ Some (row.Region r room) → Asked P c n (row.Region r room) → Typed P (opened c r) (n + 1) k d → Typed P c n k (closed d r)
    start : {c d : Context} {n l r : ℕ} {k : Kind} → slice_get P.rows n ≡ Some (row.Start l r) → Asked P c n (row.Start l r) → Typed P (placed c l (record { region = Some r; rule = rule.Start })) (n + 1) k d → Settled l k d → Typed P c n k (left d l)
    past : {c d : Context} {n l m j : ℕ} {k : Kind} → slice_get P.rows n ≡ Some (row.Past l m j) → Asked P c n (row.Past l m j) → Typed P (placed c l (record { region = region_of c m; rule = rule.Past m j })) (n + 1) k d → Settled l k d → Typed P c n k (left d l)
    after : {c d : Context} {n l m t : ℕ} {k : Kind} → slice_get P.rows n ≡ Some (row.After l m t) → Asked P c n (row.After l m t) → Typed P (placed c l (record { region = region_of c m; rule = rule.After m })) (n + 1) k d → Settled l k d → Typed P c n k (left d l)
    construct : {c : Context} {n form l v0 v1 v2 v3 v4 v5 v6 v7 : ℕ} {f : Constructor} → slice_get P.rows n ≡ Some (row.Construct form l v0 v1 v2 v3 v4 v5 v6 v7) → Asked P c n (row.Construct form l v0 v1 v2 v3 v4 v5 v6 v7) → slice_get P.forms form ≡ Some f → Typed P c n (kind.Tree f.of l) (written c l)
    bind : {c d e : Context} {n x t l m : ℕ} {k : Kind} → slice_get P.rows n ≡ Some (row.Let x t l m) → Asked P c n (row.Let x t l m) → Typed P c (n + 1) (kind_of t l) d → n < m → Typed P (with_variable d x (Some (kind_of t l))) m k e → Typed P c n k (with_variable e x None)
    test : {c d : Context} {n x y m : ℕ} {k : Kind} → slice_get P.rows n ≡ Some (row.Test x y m) → Asked P c n (row.Test x y m) → Typed P c (n + 1) k d → n < m → Typed P c m k d → Typed P c n k d
    call : {c : Context} {n g l v0 v1 v2 v3 : ℕ} {f : Function} → slice_get P.rows n ≡ Some (row.Call g l v0 v1 v2 v3) → Asked P c n (row.Call g l v0 v1 v2 v3) → slice_get P.functions g ≡ Some f → Typed P c n (kind_of f.result l) (cond (f.result == 254) c (written c l))
    case : {c d : Context} {n x t l : ℕ} {k : Kind} → slice_get P.rows n ≡ Some (row.Case x) → Asked P c n (row.Case x) → at c.variables x ≡ Some (kind.Tree t l) → Arms P c (region_of c l) (n + 1) k d → Typed P c n k d

  pub data Arms (P : Program) : Context → Option ℕ → ℕ → Kind → Context → Type 0 where
    last : {c d : Context} {r : Option ℕ} {n : ℕ} {k : Kind} → Branch P c r n k d 0 → Arms P c r n k d
    more : {c d : Context} {r : Option ℕ} {n m : ℕ} {k : Kind} → Branch P c r n k d m → n < m → Arms P c r m k d → Arms P c r n k d

  pub data Branch (P : Program) : Context → Option ℕ → ℕ → Kind → Context → ℕ → Type 0 where
    branch : {c d : Context} {r : Option ℕ} {n form x l m : ℕ} {k : Kind} {f : Constructor} → slice_get P.rows n ≡ Some (row.Branch form x l m) → Asked P c n (row.Branch form x l m) → slice_get P.forms form ≡ Some f → Typed P (parted c r f x l) (n + 1) k d → lies_within k l f.fields.subtrees ≡ false → Branch P c r n k (unparted d r f x l) m

-- a function whose body gives its result: a tree at location 0, up to which region 0 is written at the end
pub record Body (P : Program) (f : Function) : Type 0 where
  pub end : Context
  pub typed : Typed P (begun f) f.first (kind_of f.result 0) end
  pub full : (f.result ≢ 254) → frontier_in end.progress (Some 0) ≡ Some (frontier.At 0)

abbrev pub WellTyped : Program → Type 0
WellTyped P = (i : ℕ) (f : Function) → slice_get P.functions i ≡ Some f → Body P f
