-- What the check refuses fails a typing rule, and the fault that it gives is the first one.
use Rattle.std.proofs.Common.{◌≡◌, ℕ, zero, suc, ◌+◌, ◌<◌, ◌≤◌, Bool, true, false, cond, not, ◌&&◌, eqb, ltb, ◌⊎◌, length, Some, None, Ok, Err, Option, sym, refl, ap, subst, inl, inr, arith}
use Rattle.std.specs.List.{slice_get}
use Rattle.std.proofs.lemmas.Bool.Decides.{nat_tests}
use Rattle.std.proofs.lemmas.Option.{slice_get_past}
use Rattle.std.proofs.lemmas.Bool.{ltb-false, ltb-true, not-false}
use Rattle.packed.specs.declared.fault.Fault.{Fault}
use Rattle.packed.specs.declared.fault.Reason.{Reason}
use Rattle.packed.specs.declared.fault.Reason.TheVariants as reason
use Rattle.packed.specs.Forms.{either}
use Rattle.table.specs.declared.row.Row.{Row}
use Rattle.table.specs.declared.row.Row.TheVariants as row
use Rattle.packed.specs.Faults.{found}
use Rattle.table.specs.Sections.{onward}
use Rattle.checker.specs.declared.kind.Kind.TheVariants as kind
use Rattle.checker.specs.declared.context.Context.{Context}
use Rattle.checker.specs.declared.context.Location.{Location}
use Rattle.checker.specs.Contexts.{at, is_in, kind_of, same_kind, lies_within, lies_at, region_of, with_variable, with_progress, opened, closed, placed, parted}
use Rattle.checker.specs.Conditions.{Program, branch_form}
use Rattle.checker.specs.Rules.{Asked, Typed, Branch}
use Rattle.checker.specs.Verdict.{Done, Arm, refused, asking, done_with, alike, asked, Reader, Follower, further, locating, binding, testing, branching, branch_at, home_of, following, choosing, row_with, term_of, follow_of}
use Rattle.checker.specs.First.{Locates, Locates.start, Locates.past, Locates.after, Fails, Fails.own, Fails.missing, Fails.stray, Fails.in_region, Fails.in_located, Fails.unsettled, Fails.in_bound, Fails.bound_kind, Fails.bound_place, Fails.in_body, Fails.back_body, Fails.in_arm, Fails.in_other, Fails.back_other, Fails.arms_differ, Fails.in_branch, Fails.in_later, Fails.back_branch, FailsBranch, FailsBranch.no_branch, FailsBranch.branch_own, FailsBranch.unknown_form, FailsBranch.in_child, FailsBranch.value_stays, FailsLater, FailsLater.later_branch, FailsLater.later_differs, FailsLater.later_on, FailsLater.later_back}
use Rattle.checker.proofs.Inversions.{ok-err, true-false, onward-err, test-err, either-err, cond-ok, cond-err, asked-ok, asked-err}
use Rattle.checker.proofs.Scopes.{kept, kept-branch}
use Rattle.checker.proofs.Typing.{restored, alike-done, kind_at, apart, term-typed, branch-typed}

-- the same names in scope
abbrev pub Scoped : Context → Context → Type 0
Scoped d c = (d.variables ≡ c.variables) × (d.locations ≡ c.locations)

-- a part that is there is not refused for missing
known-ok : {A B : Type 0} (o : Option A) (test : A → Bool) (more : A → B) (why : Reason) (n : ℕ) (e : Fault) → either o false test ≡ true → either o (refused why n) (λ f. Ok (more f)) ≡ Err e → ⊥
known-ok None test more why n e s h = true-false (sym s)
known-ok (Some f) test more why n e s h = ok-err h

module _ (P : Program) where
  -- a reader whose granted rows are typed, and one whose refusals are first faults
  abbrev Right : Reader P → Type 0
  Right read = (n : ℕ) (c : Context) (d : Done) → read n c ≡ Ok d → Typed P c n d.kind d.after

  abbrev Wrong : Reader P → ℕ → Type 0
  Wrong read fuel = (n : ℕ) (c : Context) (e : Fault) → length P.rows ≤ n + fuel → read n c ≡ Err e → Fails P c n e

  -- the same of branches
  abbrev RightBranch : Reader P → Type 0
  RightBranch read = (n : ℕ) (r : Option ℕ) (c : Context) (a : Arm) → branch_at P read n r c (slice_get P.rows n) ≡ Ok a → Branch P c r n a.done.kind a.done.after a.next

  abbrev WrongBranch : Reader P → ℕ → Type 0
  WrongBranch read fuel = (n : ℕ) (r : Option ℕ) (c : Context) (e : Fault) → length P.rows ≤ n + 1 + fuel → branch_at P read n r c (slice_get P.rows n) ≡ Err e → FailsBranch P c r n e

  -- the same of later branches, which start with the names of the case's context in scope
  abbrev WrongLater : (ℕ → Context → Option ℕ → Follower P) → ℕ → Type 0
  WrongLater follow fuel = (n : ℕ) (c : Context) (r : Option ℕ) (b : ℕ) (d : Context) (first : Done) (e : Fault) → length P.rows ≤ b + fuel → Scoped d c → Scoped first.after c
      → follow n c r b d first ≡ Err e → FailsLater P c r n first.kind first.after b e

  following-err : (follow : Follower P) (b next : ℕ) (first d : Done) {e : Fault} → following P follow b next first d ≡ Err e
      → ((b < next) × (follow next d.after first ≡ Err e)) ⊎ ((0 < next) × (next ≤ b) × (e ≡ found reason.RowOrder 3 b))
  following-err follow b next first d {e} h = go (eqb next 0) (ltb b next) refl refl h
    where
      go : (z t : Bool) → eqb next 0 ≡ z → ltb b next ≡ t → cond z (Ok d) (cond t (follow next d.after first) (refused reason.RowOrder b)) ≡ Err e
          → ((b < next) × (follow next d.after first ≡ Err e)) ⊎ ((0 < next) × (next ≤ b) × (e ≡ found reason.RowOrder 3 b))
      go true t ez et q = absurd (ok-err q)
      go false true ez et q = inl (ltb-true b next et, q)
      go false false ez et q = inr (grind (arith, nat_tests), ltb-false b next et, cc)

  -- a row that is a branch, or none
  pub branch-or-none : (o : Option Row)
      → ((branch_form o ≡ None) × ((read : Reader P) (n : ℕ) (r : Option ℕ) (c : Context) → branch_at P read n r c o ≡ refused reason.RowOrder n))
      ⊎ ((form : ℕ) × (x : ℕ) × (l : ℕ) × (m : ℕ) × (o ≡ Some (row.Branch form x l m)))
  branch-or-none None = inl (refl, λ read n r c. refl)
  branch-or-none (Some (row.Variable x)) = inl (refl, λ read n r c. refl)
  branch-or-none (Some (row.Number value)) = inl (refl, λ read n r c. refl)
  branch-or-none (Some (row.Sum x y)) = inl (refl, λ read n r c. refl)
  branch-or-none (Some (row.Difference x y)) = inl (refl, λ read n r c. refl)
  branch-or-none (Some (row.Region s room)) = inl (refl, λ read n r c. refl)
  branch-or-none (Some (row.Start l s)) = inl (refl, λ read n r c. refl)
  branch-or-none (Some (row.Past l m k)) = inl (refl, λ read n r c. refl)
  branch-or-none (Some (row.After l m t)) = inl (refl, λ read n r c. refl)
  branch-or-none (Some (row.Construct form l v0 v1 v2 v3 v4 v5 v6 v7)) = inl (refl, λ read n r c. refl)
  branch-or-none (Some (row.Let x t l body)) = inl (refl, λ read n r c. refl)
  branch-or-none (Some (row.Test x y other)) = inl (refl, λ read n r c. refl)
  branch-or-none (Some (row.Call g l v0 v1 v2 v3)) = inl (refl, λ read n r c. refl)
  branch-or-none (Some (row.Case x)) = inl (refl, λ read n r c. refl)
  branch-or-none (Some (row.Branch form x l m)) = inr (form, x, l, m, refl)

  module _ (read : Reader P) (fuel : ℕ) (right : Right read) (wrong : Wrong read fuel) where
    -- a child one further on
    further_err : (n m : ℕ) (c : Context) {e : Fault} → length P.rows ≤ n + 1 + fuel → further P read n m c ≡ Err e → ((n < m) × Fails P c m e) ⊎ ((m ≤ n) × (e ≡ found reason.RowOrder 3 n))
    further_err n m c {e} le h =
        elim (cond-err (ltb n m) (read m c) reason.RowOrder n h) [
          | inl a ↦ inr (ltb-false n m a.0, a.1)
          | inr a ↦ let lt = ltb-true n m a.0 in inl (lt, wrong m c e (omega arith) a.1)
        ]

    further_ok : (n m : ℕ) (c : Context) (d : Done) → further P read n m c ≡ Ok d → (n < m) × Typed P c m d.kind d.after
    further_ok n m c d h = let a = cond-ok (ltb n m) (read m c) reason.RowOrder n h in (ltb-true n m a.0, right m c d a.1)

    -- Branches.
    branching-fails : (n : ℕ) (r : Option ℕ) (c : Context) (form x l m : ℕ) (e : Fault) → length P.rows ≤ n + 1 + fuel → slice_get P.rows n ≡ Some (row.Branch form x l m)
        → branching P read n r c form x l m ≡ Err e → FailsBranch P c r n e
    branching-fails n r c form x l m e le i h =
        elim (onward-err (asked P c n (row.Branch form x l m)) _ h) [
          | inl a ↦ branch_own i (asked-err P c n (row.Branch form x l m) a)
          | inr a ↦
              let q = asked-ok P c n (row.Branch form x l m) a.1 in
              elim (either-err (slice_get P.forms form) reason.Kind n _ a.2) [
                | inl b ↦ rw b.1 (unknown_form i q b.0)
                | inr b ↦
                    let f = b.0 in
                    elim (onward-err (read (n + 1) (parted c r f x l)) _ b.2) [
                      | inl s ↦ in_child i q b.1 (wrong (n + 1) (parted c r f x l) e le s)
                      | inr s ↦
                          elim (test-err (not (lies_within s.0.kind l f.fields.subtrees)) reason.ChildLeft n _ s.2) [
                            | inl z ↦ rw z.1 (value_stays i q b.1 (right (n + 1) (parted c r f x l) s.0 s.1) (not-false (lies_within s.0.kind l f.fields.subtrees) z.0))
                            | inr z ↦ absurd (ok-err z.1)
                          ]
                    ]
              ]
        ]

    branch-fails-with : WrongBranch read fuel
    branch-fails-with n r c e le h =
        elim (branch-or-none (slice_get P.rows n)) [
          | inl a ↦ let q = a.1 read n r c in let z : e ≡ found reason.RowOrder 3 n = cc in rw z (no_branch a.0)
          | inr a ↦ branching-fails n r c a.0 a.1 a.2 a.3 e le a.4 (subst (λ o. branch_at P read n r c o ≡ Err e) a.4 h)
        ]

    -- Rows.
    region-fails : (n : ℕ) (c : Context) (s room : ℕ) (e : Fault) → length P.rows ≤ n + 1 + fuel → slice_get P.rows n ≡ Some (row.Region s room) → Asked P c n (row.Region s room)
        → onward (read (n + 1) (opened c s)) (λ d. Ok (done_with d.kind (closed d.after s))) ≡ Err e → Fails P c n e
    region-fails n c s room e le i q h =
        elim (onward-err (read (n + 1) (opened c s)) _ h) [
          | inl a ↦ in_region i q (wrong (n + 1) (opened c s) e le a)
          | inr a ↦ absurd (ok-err a.2)
        ]

    locating-fails : (n l : ℕ) (p : Location) (c : Context) (r : Row) (e : Fault) → length P.rows ≤ n + 1 + fuel → slice_get P.rows n ≡ Some r → Locates c r l p → Asked P c n r
        → locating P read n l p c ≡ Err e → Fails P c n e
    locating-fails n l p c r e le i w q h =
        elim (onward-err (read (n + 1) (placed c l p)) _ h) [
          | inl a ↦ in_located i w q (wrong (n + 1) (placed c l p) e le a)
          | inr a ↦
              elim (test-err (not (is_in a.0.after.progress.unwritten l) && not (lies_within a.0.kind l 1)) reason.ChildLeft n _ a.2) [
                | inl z ↦ rw z.1 (unsettled i w q (right (n + 1) (placed c l p) a.0 a.1) z.0)
                | inr z ↦ absurd (ok-err z.1)
              ]
        ]

    -- the body of a binding
    body-fails : (n x t l m : ℕ) (c d : Context) (e : Fault) → length P.rows ≤ n + 1 + fuel → slice_get P.rows n ≡ Some (row.Let x t l m) → Asked P c n (row.Let x t l m) → Typed P c (n + 1) (kind_of t l) d
        → onward (further P read n m (with_variable d x (Some (kind_of t l)))) (λ y. Ok (done_with y.kind (with_variable y.after x None))) ≡ Err e → Fails P c n e
    body-fails n x t l m c d e le i q typed h =
        elim (onward-err (further P read n m (with_variable d x (Some (kind_of t l)))) _ h) [
          | inl a ↦ elim (further_err n m (with_variable d x (Some (kind_of t l))) le a) [
            | inl b ↦ in_body i q typed b.0 b.1
            | inr b ↦ rw b.1 (back_body i q typed b.0)
          ]
          | inr a ↦ absurd (ok-err a.2)
        ]

    binding-fails : (n x t l m : ℕ) (c : Context) (e : Fault) → length P.rows ≤ n + 1 + fuel → slice_get P.rows n ≡ Some (row.Let x t l m) → Asked P c n (row.Let x t l m)
        → binding P read n x t l m c ≡ Err e → Fails P c n e
    binding-fails n x t l m c e le i q h =
        elim (onward-err (read (n + 1) c) _ h) [
          | inl a ↦ in_bound i q (wrong (n + 1) c e le a)
          | inr a ↦
              let d = a.0 in
              let typed = right (n + 1) c d a.1 in
              elim (test-err (same_kind d.kind (kind_of t l)) reason.Kind n _ a.2) [
                | inl b ↦ rw b.1 (bound_kind i q typed b.0)
                | inr b ↦ elim (test-err (lies_at d.kind l) reason.Unwritten n _ b.1) [
                  | inl s ↦ rw s.1 (bound_place i q typed b.0 s.0)
                  | inr s ↦
                      let k = kind_at d.kind t l b.0 s.0 in
                      body-fails n x t l m c d.after e le i q (subst (λ j. Typed P c (n + 1) j d.after) k typed)
                      (subst (λ j. onward (further P read n m (with_variable d.after x (Some j))) (λ y. Ok (done_with y.kind (with_variable y.after x None))) ≡ Err e) k s.1)
                ]
              ]
        ]

    -- the other arm of a test
    other-fails : (n x y m : ℕ) (c : Context) (d : Done) (e : Fault) → length P.rows ≤ n + 1 + fuel → slice_get P.rows n ≡ Some (row.Test x y m) → Asked P c n (row.Test x y m) → Typed P c (n + 1) d.kind d.after
        → onward (further P read n m c) (λ o. onward (asking (alike d.kind d.after.progress o.kind o.after.progress) reason.ArmsDiffer n) (λ _. Ok o)) ≡ Err e → Fails P c n e
    other-fails n x y m c d e le i q typed h =
        elim (onward-err (further P read n m c) _ h) [
          | inl a ↦ elim (further_err n m c le a) [
            | inl b ↦ in_other i q typed b.0 b.1
            | inr b ↦ rw b.1 (back_other i q typed b.0)
          ]
          | inr a ↦
              let o = further_ok n m c a.0 a.1 in
              elim (test-err (alike d.kind d.after.progress a.0.kind a.0.after.progress) reason.ArmsDiffer n _ a.2) [
                | inl b ↦ rw b.1 (arms_differ i q typed o.0 o.1 b.0)
                | inr b ↦ absurd (ok-err b.1)
              ]
        ]

    testing-fails : (n x y m : ℕ) (c : Context) (e : Fault) → length P.rows ≤ n + 1 + fuel → slice_get P.rows n ≡ Some (row.Test x y m) → Asked P c n (row.Test x y m)
        → testing P read n m c ≡ Err e → Fails P c n e
    testing-fails n x y m c e le i q h =
        elim (onward-err (read (n + 1) c) _ h) [
          | inl a ↦ in_arm i q (wrong (n + 1) c e le a)
          | inr a ↦
              let d = a.0 in
              let typed = right (n + 1) c d a.1 in
              other-fails n x y m c d e le i q typed
              (subst (λ w. onward (further P read n m w) (λ o. onward (asking (alike d.kind d.after.progress o.kind o.after.progress) reason.ArmsDiffer n) (λ _. Ok o)) ≡ Err e) (restored c d.after (kept typed)) a.2)
        ]

    -- Cases.
    module _ (right-branch : RightBranch read) (follow : ℕ → Context → Option ℕ → Follower P) (later : WrongLater follow fuel) where
      choosing-fails : (n x t l : ℕ) (c : Context) (e : Fault) → length P.rows ≤ n + 1 + fuel → slice_get P.rows n ≡ Some (row.Case x) → Asked P c n (row.Case x) → at c.variables x ≡ Some (kind.Tree t l)
          → choosing P read (follow n) n (region_of c l) c ≡ Err e → Fails P c n e
      choosing-fails n x t l c e le i q tree h =
          elim (onward-err (branch_at P read (n + 1) (region_of c l) c (slice_get P.rows (n + 1))) _ h) [
            | inl a ↦ in_branch i q tree (branch-fails-with (n + 1) (region_of c l) c e (omega arith) a)
            | inr a ↦
                let arm = a.0 in
                let typed = right-branch (n + 1) (region_of c l) c arm a.1 in
                elim (following-err (follow n c (region_of c l)) (n + 1) arm.next arm.done arm.done a.2) [
                  | inl b ↦ let lt = b.0 in in_later i q tree typed b.0 (later n c (region_of c l) arm.next arm.done.after arm.done e (omega arith) (kept-branch typed) (kept-branch typed) b.1)
                  | inr b ↦ rw b.2 (back_branch i q tree typed b.0 b.1)
                ]
          ]

      case-fails : (n x : ℕ) (c : Context) (e : Fault) → length P.rows ≤ n + 1 + fuel → slice_get P.rows n ≡ Some (row.Case x) → Asked P c n (row.Case x)
          → choosing P read (follow n) n (home_of P c (at c.variables x)) c ≡ Err e → Fails P c n e
      case-fails n x c e le i q h =
          let tree = apart P n (at c.variables x) q.kind in
          choosing-fails n x tree.0 tree.1 c e le i q tree.2 (subst (λ o. choosing P read (follow n) n (home_of P c o) c ≡ Err e) tree.2 h)

      -- behind a later branch, which ended as the first did
      on-fails : (n : ℕ) (c : Context) (r : Option ℕ) (b m : ℕ) (first d : Done) (e : Fault) → length P.rows ≤ b + 1 + fuel → Scoped first.after c → d ≡ first → Branch P c r b d.kind d.after m
          → following P (follow n c r) b m first d ≡ Err e → FailsLater P c r n first.kind first.after b e
      on-fails n c r b m first d e le sf same typed h =
          let typed' : Branch P c r b first.kind first.after m = rw same at typed in
          elim (following-err (follow n c r) b m first d h) [
            | inl q ↦ let lt = q.0 in later_on typed' q.0 (later n c r m d.after first e (omega arith) (kept-branch typed) sf q.1)
            | inr q ↦ rw q.2 (later_back typed' q.0 q.1)
          ]

      -- later branches, in the context of the case
      later-fails-at : (n : ℕ) (c : Context) (r : Option ℕ) (b : ℕ) (first : Done) (e : Fault) → length P.rows ≤ b + 1 + fuel → Scoped first.after c
          → onward (branch_at P read b r c (slice_get P.rows b)) (λ a.
          onward (asking (alike first.kind first.after.progress a.done.kind a.done.after.progress) reason.ArmsDiffer n) (λ _.
          following P (follow n c r) b a.next first a.done)) ≡ Err e
          → FailsLater P c r n first.kind first.after b e
      later-fails-at n c r b first e le sf h =
          elim (onward-err (branch_at P read b r c (slice_get P.rows b)) _ h) [
            | inl a ↦ later_branch (branch-fails-with b r c e le a)
            | inr a ↦
                let arm = a.0 in
                let typed = right-branch b r c arm a.1 in
                elim (test-err (alike first.kind first.after.progress arm.done.kind arm.done.after.progress) reason.ArmsDiffer n _ a.2) [
                  | inl z ↦ rw z.1 (later_differs typed z.0)
                  | inr z ↦ on-fails n c r b arm.next first arm.done e le sf (alike-done c first arm.done sf (kept-branch typed) z.0) typed z.1
                ]
          ]

      later-fails-with : (n : ℕ) (c : Context) (r : Option ℕ) (b : ℕ) (d : Context) (first : Done) (e : Fault) → length P.rows ≤ b + 1 + fuel → Scoped d c → Scoped first.after c
          → onward (branch_at P read b r (with_progress d c.progress) (slice_get P.rows b)) (λ a.
          onward (asking (alike first.kind first.after.progress a.done.kind a.done.after.progress) reason.ArmsDiffer n) (λ _.
          following P (follow n c r) b a.next first a.done)) ≡ Err e
          → FailsLater P c r n first.kind first.after b e
      later-fails-with n c r b d first e le sd sf h =
          later-fails-at n c r b first e le sf
          (subst (λ w. onward (branch_at P read b r w (slice_get P.rows b)) (λ a.
          onward (asking (alike first.kind first.after.progress a.done.kind a.done.after.progress) reason.ArmsDiffer n) (λ _.
          following P (follow n c r) b a.next first a.done)) ≡ Err e) (restored c d sd) h)

      row-fails : (n : ℕ) (c : Context) (r : Row) (e : Fault) → length P.rows ≤ n + 1 + fuel → slice_get P.rows n ≡ Some r → Asked P c n r → row_with P read follow n c r ≡ Err e → Fails P c n e
      row-fails n c (row.Variable x) e le i q h = absurd (known-ok (at c.variables x) _ _ reason.Scope n e q.scope h)
      row-fails n c (row.Number value) e le i q h = absurd (ok-err h)
      row-fails n c (row.Sum x y) e le i q h = absurd (ok-err h)
      row-fails n c (row.Difference x y) e le i q h = absurd (ok-err h)
      row-fails n c (row.Region s room) e le i q h = region-fails n c s room e le i q h
      row-fails n c (row.Start l s) e le i q h = locating-fails n l _ c (row.Start l s) e le i start q h
      row-fails n c (row.Past l m k) e le i q h = locating-fails n l _ c (row.Past l m k) e le i past q h
      row-fails n c (row.After l m t) e le i q h = locating-fails n l _ c (row.After l m t) e le i after q h
      row-fails n c (row.Construct form l v0 v1 v2 v3 v4 v5 v6 v7) e le i q h = absurd (known-ok (slice_get P.forms form) _ _ reason.Kind n e q.kind h)
      row-fails n c (row.Let x t l body) e le i q h = binding-fails n x t l body c e le i q h
      row-fails n c (row.Test x y other) e le i q h = testing-fails n x y other c e le i q h
      row-fails n c (row.Call g l v0 v1 v2 v3) e le i q h = absurd (known-ok (slice_get P.functions g) _ _ reason.Kind n e q.kind h)
      row-fails n c (row.Case x) e le i q h = case-fails n x c e le i q h
      row-fails n c (row.Branch form x l m) e le i q h = let z : e ≡ found reason.RowOrder 3 n = cc in rw z (stray i q)

  -- By fuel, a row and the later branches of a case together.
  abbrev Both : ℕ → Type 0
  Both fuel = Wrong (term_of P fuel) fuel × WrongLater (follow_of P fuel) fuel

  none_left : Both zero
  none_left = (
    (λ n c e le h. let z : e ≡ found reason.RowOrder 3 n = cc in rw z (missing (slice_get_past P.rows n (omega arith)))),
    (λ n c r b d first e le sd sf h. let z : e ≡ found reason.RowOrder 3 b = cc in rw z (later_branch (no_branch (ap branch_form (slice_get_past P.rows b (omega arith)))))),
  )

  one_more : (fuel : ℕ) → Both fuel → Both (suc fuel)
  one_more fuel both = (term, later)
    where
      term : Wrong (term_of P (suc fuel)) (suc fuel)
      term n c e le h =
          elim (either-err (slice_get P.rows n) reason.RowOrder n _ h) [
            | inl a ↦ rw a.1 (missing a.0)
            | inr a ↦
                elim (onward-err (asked P c n a.0) _ a.2) [
                  | inl b ↦ own a.1 (asked-err P c n a.0 b)
                  | inr b ↦ row-fails (term_of P fuel) fuel (term-typed P fuel) both.0 (branch-typed P fuel) (follow_of P fuel) both.1 n c a.0 e (omega arith) a.1 (asked-ok P c n a.0 b.1) b.2
                ]
          ]

      later : WrongLater (follow_of P (suc fuel)) (suc fuel)
      later n c r b d first e le sd sf h = later-fails-with (term_of P fuel) fuel (term-typed P fuel) both.0 (branch-typed P fuel) (follow_of P fuel) both.1 n c r b d first e (omega arith) sd sf h

  both-fail : (fuel : ℕ) → Both fuel
  both-fail zero = none_left
  both-fail (suc fuel) = one_more fuel (both-fail fuel)

  pub term-fails : (fuel n : ℕ) (c : Context) (e : Fault) → length P.rows ≤ n + fuel → term_of P fuel n c ≡ Err e → Fails P c n e
  term-fails fuel = (both-fail fuel).0

  pub branch-fails : (fuel n : ℕ) (r : Option ℕ) (c : Context) (e : Fault) → length P.rows ≤ n + 1 + fuel → branch_at P (term_of P fuel) n r c (slice_get P.rows n) ≡ Err e → FailsBranch P c r n e
  branch-fails fuel = branch-fails-with (term_of P fuel) fuel (term-typed P fuel) (both-fail fuel).0

  pub later-fails : (fuel n : ℕ) (c : Context) (r : Option ℕ) (b : ℕ) (d : Context) (first : Done) (e : Fault) → length P.rows ≤ b + fuel → Scoped d c → Scoped first.after c
      → follow_of P fuel n c r b d first ≡ Err e → FailsLater P c r n first.kind first.after b e
  later-fails fuel = (both-fail fuel).1
