-- The first fault of a program whose rows break a typing rule, as a relation: what is right before it, and what fails.
use Rattle.std.specs.Prelude.{◌≡◌, ℕ, ◌+◌, ◌<◌, ◌≤◌, true, false, not, ◌&&◌, Some, None, Option}
use Rattle.std.specs.List.{slice_get}
use Rattle.packed.specs.declared.constructor.Constructor.{Constructor}
use Rattle.packed.specs.declared.fault.Fault.{Fault}
use Rattle.packed.specs.declared.fault.Reason.TheVariants as reason
use Rattle.table.specs.declared.function.Function.{Function}
use Rattle.table.specs.declared.row.Row.{Row}
use Rattle.table.specs.declared.row.Row.TheVariants as row
use Rattle.packed.specs.Faults.{found}
use Rattle.checker.specs.declared.kind.Kind.{Kind}
use Rattle.checker.specs.declared.kind.Kind.TheVariants as kind
use Rattle.checker.specs.declared.context.Context.{Context}
use Rattle.checker.specs.declared.context.Location.{Location}
use Rattle.checker.specs.declared.context.Rule.TheVariants as rule
use Rattle.checker.specs.Contexts.{at, is_in, kind_of, same_kind, lies_within, lies_at, region_of, with_variable, opened, placed, parted, begun}
use Rattle.checker.specs.Conditions.{Program, names, kinds, rules, places, branch_form}
use Rattle.checker.specs.Rules.{Asked, Typed, Branch, Body}
use Rattle.checker.specs.Verdict.{alike, done_with, ended}

-- rows 5 to 7: the location that a row brings into scope
pub data Locates (c : Context) : Row → ℕ → Location → Type 0 where
  start : {l r : ℕ} → Locates c (row.Start l r) l (record { region = Some r; rule = rule.Start })
  past : {l m k : ℕ} → Locates c (row.Past l m k) l (record { region = region_of c m; rule = rule.Past m k })
  after : {l m t : ℕ} → Locates c (row.After l m t) l (record { region = region_of c m; rule = rule.After m })

-- Breaks P c n r f: a condition of row n itself fails, and those of lower numbers hold.
pub data Breaks (P : Program) (c : Context) (n : ℕ) (r : Row) : Fault → Type 0 where
  scope_broken : names P c r ≡ false → Breaks P c n r (found reason.Scope 3 n)
  kind_broken : names P c r ≡ true → kinds P c n r ≡ false → Breaks P c n r (found reason.Kind 3 n)
  frontier_broken : names P c r ≡ true → kinds P c n r ≡ true → rules P c r ≡ false → Breaks P c n r (found reason.LocationRule 3 n)
  place_broken : names P c r ≡ true → kinds P c n r ≡ true → rules P c r ≡ true → places P c r ≡ false → Breaks P c n r (found reason.Unwritten 3 n)

-- Fails P c n f: in the context c, the first fault of row n and what hangs on it is f. FailsBranch and FailsLater say so of
-- a branch, and of the branches from row b on, of the case at row n, whose first branch gave k and left d.
-- The cases `missing`, `stray`, `no_branch` and those named `back` are there for rows out of order, which no table that is read has.
mutual
  pub data Fails (P : Program) : Context → ℕ → Fault → Type 0 where
    own : {c : Context} {n : ℕ} {r : Row} {f : Fault} → slice_get P.rows n ≡ Some r → Breaks P c n r f → Fails P c n f
    missing : {c : Context} {n : ℕ} → slice_get P.rows n ≡ None → Fails P c n (found reason.RowOrder 3 n)
    stray : {c : Context} {n form x l m : ℕ} → slice_get P.rows n ≡ Some (row.Branch form x l m) → Asked P c n (row.Branch form x l m) → Fails P c n (found reason.RowOrder 3 n)
    in_region : {c : Context} {n r room : ℕ} {f : Fault} → slice_get P.rows n ≡ Some (row.Region r room) → Asked P c n (row.Region r room) → Fails P (opened c r) (n + 1) f → Fails P c n f
    in_located : {c : Context} {n l : ℕ} {r : Row} {p : Location} {f : Fault} → slice_get P.rows n ≡ Some r → Locates c r l p → Asked P c n r → Fails P (placed c l p) (n + 1) f → Fails P c n f
    unsettled : {c d : Context} {n l : ℕ} {r : Row} {p : Location} {k : Kind} → slice_get P.rows n ≡ Some r → Locates c r l p → Asked P c n r → Typed P (placed c l p) (n + 1) k d → (not (is_in d.progress.unwritten l) && not (lies_within k l 1)) ≡ false → Fails P c n (found reason.ChildLeft 3 n)
    in_bound : {c : Context} {n x t l m : ℕ} {f : Fault} → slice_get P.rows n ≡ Some (row.Let x t l m) → Asked P c n (row.Let x t l m) → Fails P c (n + 1) f → Fails P c n f
    bound_kind : {c d : Context} {n x t l m : ℕ} {k : Kind} → slice_get P.rows n ≡ Some (row.Let x t l m) → Asked P c n (row.Let x t l m) → Typed P c (n + 1) k d → same_kind k (kind_of t l) ≡ false → Fails P c n (found reason.Kind 3 n)
    bound_place : {c d : Context} {n x t l m : ℕ} {k : Kind} → slice_get P.rows n ≡ Some (row.Let x t l m) → Asked P c n (row.Let x t l m) → Typed P c (n + 1) k d → same_kind k (kind_of t l) ≡ true → lies_at k l ≡ false → Fails P c n (found reason.Unwritten 3 n)
    in_body : {c d : Context} {n x t l m : ℕ} {f : Fault} → slice_get P.rows n ≡ Some (row.Let x t l m) → Asked P c n (row.Let x t l m) → Typed P c (n + 1) (kind_of t l) d → n < m → Fails P (with_variable d x (Some (kind_of t l))) m f → Fails P c n f
    back_body : {c d : Context} {n x t l m : ℕ} → slice_get P.rows n ≡ Some (row.Let x t l m) → Asked P c n (row.Let x t l m) → Typed P c (n + 1) (kind_of t l) d → m ≤ n → Fails P c n (found reason.RowOrder 3 n)
    in_arm : {c : Context} {n x y m : ℕ} {f : Fault} → slice_get P.rows n ≡ Some (row.Test x y m) → Asked P c n (row.Test x y m) → Fails P c (n + 1) f → Fails P c n f
    in_other : {c d : Context} {n x y m : ℕ} {k : Kind} {f : Fault} → slice_get P.rows n ≡ Some (row.Test x y m) → Asked P c n (row.Test x y m) → Typed P c (n + 1) k d → n < m → Fails P c m f → Fails P c n f
    back_other : {c d : Context} {n x y m : ℕ} {k : Kind} → slice_get P.rows n ≡ Some (row.Test x y m) → Asked P c n (row.Test x y m) → Typed P c (n + 1) k d → m ≤ n → Fails P c n (found reason.RowOrder 3 n)
    arms_differ : {c d e : Context} {n x y m : ℕ} {k j : Kind} → slice_get P.rows n ≡ Some (row.Test x y m) → Asked P c n (row.Test x y m) → Typed P c (n + 1) k d → n < m → Typed P c m j e → alike k d.progress j e.progress ≡ false → Fails P c n (found reason.ArmsDiffer 3 n)
    in_branch : {c : Context} {n x t l : ℕ} {f : Fault} → slice_get P.rows n ≡ Some (row.Case x) → Asked P c n (row.Case x) → at c.variables x ≡ Some (kind.Tree t l) → FailsBranch P c (region_of c l) (n + 1) f → Fails P c n f
    in_later : {c d : Context} {n x t l m : ℕ} {k : Kind} {f : Fault} → slice_get P.rows n ≡ Some (row.Case x) → Asked P c n (row.Case x) → at c.variables x ≡ Some (kind.Tree t l) → Branch P c (region_of c l) (n + 1) k d m → n + 1 < m → FailsLater P c (region_of c l) n k d m f → Fails P c n f
    back_branch : {c d : Context} {n x t l m : ℕ} {k : Kind} → slice_get P.rows n ≡ Some (row.Case x) → Asked P c n (row.Case x) → at c.variables x ≡ Some (kind.Tree t l) → Branch P c (region_of c l) (n + 1) k d m → 0 < m → m ≤ n + 1 → Fails P c n (found reason.RowOrder 3 (n + 1))

  pub data FailsBranch (P : Program) : Context → Option ℕ → ℕ → Fault → Type 0 where
    no_branch : {c : Context} {r : Option ℕ} {n : ℕ} → branch_form (slice_get P.rows n) ≡ None → FailsBranch P c r n (found reason.RowOrder 3 n)
    branch_own : {c : Context} {r : Option ℕ} {n form x l m : ℕ} {f : Fault} → slice_get P.rows n ≡ Some (row.Branch form x l m) → Breaks P c n (row.Branch form x l m) f → FailsBranch P c r n f
    unknown_form : {c : Context} {r : Option ℕ} {n form x l m : ℕ} → slice_get P.rows n ≡ Some (row.Branch form x l m) → Asked P c n (row.Branch form x l m) → slice_get P.forms form ≡ None → FailsBranch P c r n (found reason.Kind 3 n)
    in_child : {c : Context} {r : Option ℕ} {n form x l m : ℕ} {f : Constructor} {e : Fault} → slice_get P.rows n ≡ Some (row.Branch form x l m) → Asked P c n (row.Branch form x l m) → slice_get P.forms form ≡ Some f → Fails P (parted c r f x l) (n + 1) e → FailsBranch P c r n e
    value_stays : {c d : Context} {r : Option ℕ} {n form x l m : ℕ} {k : Kind} {f : Constructor} → slice_get P.rows n ≡ Some (row.Branch form x l m) → Asked P c n (row.Branch form x l m) → slice_get P.forms form ≡ Some f → Typed P (parted c r f x l) (n + 1) k d → lies_within k l f.fields.subtrees ≡ true → FailsBranch P c r n (found reason.ChildLeft 3 n)

  pub data FailsLater (P : Program) : Context → Option ℕ → ℕ → Kind → Context → ℕ → Fault → Type 0 where
    later_branch : {c d : Context} {r : Option ℕ} {n b : ℕ} {k : Kind} {f : Fault} → FailsBranch P c r b f → FailsLater P c r n k d b f
    later_differs : {c d e : Context} {r : Option ℕ} {n b m : ℕ} {k j : Kind} → Branch P c r b j e m → alike k d.progress j e.progress ≡ false → FailsLater P c r n k d b (found reason.ArmsDiffer 3 n)
    later_on : {c d : Context} {r : Option ℕ} {n b m : ℕ} {k : Kind} {f : Fault} → Branch P c r b k d m → b < m → FailsLater P c r n k d m f → FailsLater P c r n k d b f
    later_back : {c d : Context} {r : Option ℕ} {n b m : ℕ} {k : Kind} → Branch P c r b k d m → 0 < m → m ≤ b → FailsLater P c r n k d b (found reason.RowOrder 3 b)

-- FailsBody P f e: the first fault of a function is e: one in its body, or what the body gives is not what the function says,
-- at its first row.
pub data FailsBody (P : Program) (f : Function) : Fault → Type 0 where
  inside : {e : Fault} → Fails P (begun f) f.first e → FailsBody P f e
  wrong_kind : {d : Context} {k : Kind} → Typed P (begun f) f.first k d → same_kind k (kind_of f.result 0) ≡ false → FailsBody P f (found reason.Kind 3 f.first)
  wrong_place : {d : Context} {k : Kind} → Typed P (begun f) f.first k d → same_kind k (kind_of f.result 0) ≡ true → ended P f (done_with k d) ≡ false → FailsBody P f (found reason.Unwritten 3 f.first)

-- Broken P e: e is the first fault of the program: every function before it has a right body.
pub record Broken (P : Program) (e : Fault) : Type 0 where
  pub number : ℕ
  pub function : Function
  pub here : slice_get P.functions number ≡ Some function
  pub before : (j : ℕ) (g : Function) → j < number → slice_get P.functions j ≡ Some g → Body P g
  pub first : FailsBody P function e
