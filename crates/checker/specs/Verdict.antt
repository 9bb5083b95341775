-- The check, as a definition that can be run: rows in descent order, each with the first fault that it meets.
use Rattle.std.specs.Prelude.{ℕ, zero, suc, ◌+◌, Bool, true, false, cond, not, ◌&&◌, ◌||◌, List, [], ◌∷◌, length, Some, None, Ok, Err, Option, Result, ◌==◌, nat_lt}
use Rattle.std.specs.List.{slice_get}
use Rattle.packed.specs.declared.fault.Fault.{Fault}
use Rattle.packed.specs.declared.fault.Reason.{Reason}
use Rattle.packed.specs.declared.fault.Reason.TheVariants as reason
use Rattle.packed.specs.Forms.{either}
use Rattle.table.specs.declared.function.Function.{Function}
use Rattle.table.specs.declared.row.Row.{Row}
use Rattle.table.specs.declared.row.Row.TheVariants as row
use Rattle.packed.specs.Faults.{found, given}
use Rattle.table.specs.Sections.{onward}
use Rattle.checker.specs.declared.kind.Kind.{Kind}
use Rattle.checker.specs.declared.kind.Kind.TheVariants as kind
use Rattle.checker.specs.declared.context.Context.{Context}
use Rattle.checker.specs.declared.context.Progress.{Progress}
use Rattle.checker.specs.declared.context.Location.{Location}
use Rattle.checker.specs.declared.context.Rule.TheVariants as rule
use Rattle.checker.specs.declared.context.Frontier.{Frontier}
use Rattle.checker.specs.declared.context.Frontier.TheVariants as frontier
use Rattle.checker.specs.Contexts.{at, is_in, kind_of, same_kind, lies_within, lies_at, is_at, region_of, frontier_in, with_variable, with_progress, opened, closed, placed, written, left, parted, unparted, begun}
use Rattle.checker.specs.Conditions.{Program, names, kinds, rules, places, construct_names, construct_kinds, construct_places, call_names, call_kinds, call_places}

-- what a row gives, and the context behind it
pub record Done : Type 0 where
  pub kind : Kind
  pub after : Context

-- the same of a branch, with the row of the branch behind it, 0 for none
pub record Arm : Type 0 where
  pub done : Done
  pub next : ℕ

abbrev pub Answer : Type 0
Answer = Result Done Fault

abbrev pub refused : {X : Type 0} → Reason → ℕ → Result X Fault
refused why n = Err (found why 3 n)

-- nothing where a condition holds, or else a fault at row n
abbrev pub asking : Bool → Reason → ℕ → Result (Unit {0}) Fault
asking b why n = given b why 3 n

abbrev pub done_with : Kind → Context → Done
done_with k c = record { kind = k; after = c }

-- Arms end alike where they give the same kind at the same location, with the same A and N.
abbrev pub same_value : Kind → Kind → Bool
same_value kind.Integer kind.Integer = true
same_value kind.Integer (kind.Tree t l) = false
same_value (kind.Tree s m) kind.Integer = false
same_value (kind.Tree s m) (kind.Tree t l) = s == t && m == l

abbrev pub same_frontier : Option Frontier → Option Frontier → Bool
same_frontier None None = true
same_frontier None (Some f) = false
same_frontier (Some f) None = false
same_frontier (Some frontier.Nothing) (Some frontier.Nothing) = true
same_frontier (Some frontier.Nothing) (Some (frontier.At l)) = false
same_frontier (Some frontier.Nothing) (Some frontier.Shut) = false
same_frontier (Some (frontier.At m)) (Some frontier.Nothing) = false
same_frontier (Some (frontier.At m)) (Some (frontier.At l)) = m == l
same_frontier (Some (frontier.At m)) (Some frontier.Shut) = false
same_frontier (Some frontier.Shut) (Some frontier.Nothing) = false
same_frontier (Some frontier.Shut) (Some (frontier.At l)) = false
same_frontier (Some frontier.Shut) (Some frontier.Shut) = true

abbrev pub same_bit : Bool → Bool → Bool
same_bit true b = b
same_bit false b = not b

-- two lists, entry by entry
abbrev pub same_list : {X : Type 0} → (X → X → Bool) → List X → List X → Bool
same_list same [] [] = true
same_list same [] (y ∷ ys) = false
same_list same (x ∷ xs) [] = false
same_list same (x ∷ xs) (y ∷ ys) = same x y && same_list same xs ys

abbrev pub same_progress : Progress → Progress → Bool
same_progress p q = same_list same_frontier p.frontiers q.frontiers && same_list same_bit p.unwritten q.unwritten

abbrev pub alike : Kind → Progress → Kind → Progress → Bool
alike k p j q = same_value k j && same_progress p q

-- the first of four conditions of row n that fails, by rising number
abbrev pub by_number : ℕ → Bool → Bool → Bool → Bool → Result (Unit {0}) Fault
by_number n scope kinds frontier place =
    onward (asking scope reason.Scope n) (λ _.
    onward (asking kinds reason.Kind n) (λ _.
    onward (asking frontier reason.LocationRule n) (λ _.
    onward (asking place reason.Unwritten n) (λ _. Ok tt))))

module _ (P : Program) where
  -- a row's own conditions
  abbrev pub asked : Context → ℕ → Row → Result (Unit {0}) Fault
  asked c n r = by_number n (names P c r) (kinds P c n r) (rules P c r) (places P c r)

  -- reads a row and what hangs on it
  abbrev pub Reader : Type 0
  Reader = ℕ → Context → Answer

  -- a child that row n says starts at row m: one further on
  abbrev pub further : Reader → ℕ → ℕ → Context → Answer
  further read n m c = cond (nat_lt n m) (read m c) (refused reason.RowOrder n)

  -- behind the child of a row that bound location l
  abbrev pub settled : ℕ → ℕ → Done → Answer
  settled n l d =
      onward (asking (not (is_in d.after.progress.unwritten l) && not (lies_within d.kind l 1)) reason.ChildLeft n) (λ _.
      Ok (done_with d.kind (left d.after l)))

  abbrev pub locating : Reader → ℕ → ℕ → Location → Context → Answer
  locating read n l p c = onward (read (n + 1) (placed c l p)) (settled n l)

  abbrev pub binding : Reader → ℕ → ℕ → ℕ → ℕ → ℕ → Context → Answer
  binding read n x t l m c =
      onward (read (n + 1) c) (λ d.
      onward (asking (same_kind d.kind (kind_of t l)) reason.Kind n) (λ _.
      onward (asking (lies_at d.kind l) reason.Unwritten n) (λ _.
      onward (further read n m (with_variable d.after x (Some d.kind))) (λ e.
      Ok (done_with e.kind (with_variable e.after x None))))))

  abbrev pub testing : Reader → ℕ → ℕ → Context → Answer
  testing read n m c =
      onward (read (n + 1) c) (λ d.
      onward (further read n m (with_progress d.after c.progress)) (λ e.
      onward (asking (alike d.kind d.after.progress e.kind e.after.progress) reason.ArmsDiffer n) (λ _. Ok e)))

  -- the branch at row n of a tree in region r
  abbrev pub branching : Reader → ℕ → Option ℕ → Context → ℕ → ℕ → ℕ → ℕ → Result Arm Fault
  branching read n r c form x l next =
      onward (asked c n (row.Branch form x l next)) (λ _.
      either (slice_get P.forms form) (refused reason.Kind n) (λ f.
      onward (read (n + 1) (parted c r f x l)) (λ d.
      onward (asking (not (lies_within d.kind l f.fields.subtrees)) reason.ChildLeft n) (λ _.
      Ok (record { done = done_with d.kind (unparted d.after r f x l); next = next })))))

  abbrev pub branch_at : Reader → ℕ → Option ℕ → Context → Option Row → Result Arm Fault
  branch_at read n r c None = refused reason.RowOrder n
  branch_at read n r c (Some (row.Variable x)) = refused reason.RowOrder n
  branch_at read n r c (Some (row.Number value)) = refused reason.RowOrder n
  branch_at read n r c (Some (row.Sum x y)) = refused reason.RowOrder n
  branch_at read n r c (Some (row.Difference x y)) = refused reason.RowOrder n
  branch_at read n r c (Some (row.Region s room)) = refused reason.RowOrder n
  branch_at read n r c (Some (row.Start l s)) = refused reason.RowOrder n
  branch_at read n r c (Some (row.Past l m k)) = refused reason.RowOrder n
  branch_at read n r c (Some (row.After l m t)) = refused reason.RowOrder n
  branch_at read n r c (Some (row.Construct form l v0 v1 v2 v3 v4 v5 v6 v7)) = refused reason.RowOrder n
  branch_at read n r c (Some (row.Let x t l body)) = refused reason.RowOrder n
  branch_at read n r c (Some (row.Test x y other)) = refused reason.RowOrder n
  branch_at read n r c (Some (row.Call g l v0 v1 v2 v3)) = refused reason.RowOrder n
  branch_at read n r c (Some (row.Case x)) = refused reason.RowOrder n
  branch_at read n r c (Some (row.Branch form x0 l0 next)) = branching read n r c form x0 l0 next

  -- the region of a tree
  abbrev pub home_of : Context → Option Kind → Option ℕ
  home_of c None = None
  home_of c (Some kind.Integer) = None
  home_of c (Some (kind.Tree t l)) = region_of c l

  -- Reads the branches from a row on, in a context, where all before ended as the first did.
  abbrev pub Follower : Type 0
  Follower = ℕ → Context → Done → Answer

  -- behind an arm, at row b, of the case at row n: the next, one further on
  abbrev pub following : Follower → ℕ → ℕ → Done → Done → Answer
  following follow b next first d = cond (next == 0) (Ok d) (cond (nat_lt b next) (follow next d.after first) (refused reason.RowOrder b))

  abbrev pub choosing : Reader → (Context → Option ℕ → Follower) → ℕ → Option ℕ → Context → Answer
  choosing read follow n r c =
      onward (branch_at read (n + 1) r c (slice_get P.rows (n + 1))) (λ a.
      following (follow c r) (n + 1) a.next a.done a.done)

  -- a row, where `read` reads its children and `follow` the later branches of a case
  abbrev pub row_with : Reader → (ℕ → Context → Option ℕ → Follower) → ℕ → Context → Row → Answer
  row_with read follow n c (row.Variable x) = either (at c.variables x) (refused reason.Scope n) (λ k. Ok (done_with k c))
  row_with read follow n c (row.Number value) = Ok (done_with kind.Integer c)
  row_with read follow n c (row.Sum x y) = Ok (done_with kind.Integer c)
  row_with read follow n c (row.Difference x y) = Ok (done_with kind.Integer c)
  row_with read follow n c (row.Region r room) = onward (read (n + 1) (opened c r)) (λ d. Ok (done_with d.kind (closed d.after r)))
  row_with read follow n c (row.Start l r) = locating read n l (record { region = Some r; rule = rule.Start }) c
  row_with read follow n c (row.Past l m k) = locating read n l (record { region = region_of c m; rule = rule.Past m k }) c
  row_with read follow n c (row.After l m t) = locating read n l (record { region = region_of c m; rule = rule.After m }) c
  row_with read follow n c (row.Construct form l v0 v1 v2 v3 v4 v5 v6 v7) = either (slice_get P.forms form) (refused reason.Kind n) (λ f. Ok (done_with (kind.Tree f.of l) (written c l)))
  row_with read follow n c (row.Let x t l body) = binding read n x t l body c
  row_with read follow n c (row.Test x y other) = testing read n other c
  row_with read follow n c (row.Call g l v0 v1 v2 v3) = either (slice_get P.functions g) (refused reason.Kind n) (λ f. Ok (done_with (kind_of f.result l) (cond (f.result == 254) c (written c l))))
  row_with read follow n c (row.Case x) = choosing read (follow n) n (home_of c (at c.variables x)) c
  row_with read follow n c (row.Branch form x0 l0 next) = refused reason.RowOrder n

  -- its own conditions, then its children
  abbrev pub row_of : Reader → (ℕ → Context → Option ℕ → Follower) → ℕ → Context → Row → Answer
  row_of read follow n c r = onward (asked c n r) (λ _. row_with read follow n c r)

  -- a construct and a call, with their variables in a list
  abbrev pub constructing : ℕ → ℕ → ℕ → List ℕ → Context → Answer
  constructing n form l vs c =
      onward (by_number n (construct_names P c form l vs) (construct_kinds P c form vs) true (construct_places P c form l vs)) (λ _.
      either (slice_get P.forms form) (refused reason.Kind n) (λ f. Ok (done_with (kind.Tree f.of l) (written c l))))

  abbrev pub calling : ℕ → ℕ → ℕ → List ℕ → Context → Answer
  calling n g l vs c =
      onward (by_number n (call_names P c g l vs) (call_kinds P c g vs) true (call_places P c g l)) (λ _.
      either (slice_get P.functions g) (refused reason.Kind n) (λ f. Ok (done_with (kind_of f.result l) (cond (f.result == 254) c (written c l)))))

  -- The row at n and what hangs on it, and the later branches of the case at row n in the context c of the case; `fuel`
  -- bounds how deep this goes.
  abbrev mutual
    pub term_of : ℕ → ℕ → Context → Answer
    term_of zero n c = refused reason.RowOrder n
    term_of (suc fuel) n c = either (slice_get P.rows n) (refused reason.RowOrder n) (row_of (term_of fuel) (follow_of fuel) n c)

    pub follow_of : ℕ → ℕ → Context → Option ℕ → ℕ → Context → Done → Answer
    follow_of zero n c r b d first = refused reason.RowOrder b
    follow_of (suc fuel) n c r b d first =
        onward (branch_at (term_of fuel) b r (with_progress d c.progress) (slice_get P.rows b)) (λ a.
        onward (asking (alike first.kind first.after.progress a.done.kind a.done.after.progress) reason.ArmsDiffer n) (λ _.
        following (follow_of fuel n c r) b a.next first a.done))

  -- Functions.

  -- whether a body that gives this ends as its function says: a tree at location 0, up to which region 0 is written
  abbrev pub ended : Function → Done → Bool
  ended f d = f.result == 254 || (lies_at d.kind 0 && is_at 0 (frontier_in d.after.progress (Some 0)))

  abbrev pub body_of : Function → Result (Unit {0}) Fault
  body_of f =
      onward (term_of (length P.rows) f.first (begun f)) (λ d.
      onward (asking (same_kind d.kind (kind_of f.result 0)) reason.Kind f.first) (λ _.
      onward (asking (ended f d) reason.Unwritten f.first) (λ _. Ok tt)))

  abbrev pub bodies_of : List Function → Result (Unit {0}) Fault
  bodies_of [] = Ok tt
  bodies_of (f ∷ fs) = onward (body_of f) (λ _. bodies_of fs)

  -- Layer 3: the functions in order.
  abbrev pub verdict_of : Result (Unit {0}) Fault
  verdict_of = bodies_of P.functions
