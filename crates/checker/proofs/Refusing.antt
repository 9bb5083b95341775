-- What fails a typing rule is refused: the check gives the first fault.
use Rattle.std.proofs.Common.{◌≡◌, ℕ, zero, suc, ◌+◌, ◌<◌, ◌≤◌, Bool, true, false, not, ◌&&◌, eqb, ltb, length, Some, None, Ok, Err, Option, Result, sym, refl, ap, ◌∙◌, subst, inl, inr, arith}
use Rattle.std.specs.List.{slice_get}
use Rattle.std.proofs.lemmas.Bool.Decides.{nat_tests}
use Rattle.std.proofs.lemmas.Option.{slice_get_past, slice_get_within}
use Rattle.std.proofs.lemmas.Bool.{lt-ltb}
use Rattle.packed.specs.declared.constructor.Constructor.{Constructor}
use Rattle.packed.specs.declared.fault.Fault.{Fault}
use Rattle.packed.specs.declared.fault.Reason.{Reason}
use Rattle.packed.specs.declared.fault.Reason.TheVariants as reason
use Rattle.packed.specs.Forms.{either}
use Rattle.table.specs.declared.row.Row.{Row}
use Rattle.table.specs.declared.row.Row.TheVariants as row
use Rattle.packed.specs.Faults.{found}
use Rattle.table.specs.Sections.{onward}
use Rattle.checker.specs.declared.kind.Kind.{Kind}
use Rattle.checker.specs.declared.kind.Kind.TheVariants as kind
use Rattle.checker.specs.declared.context.Context.{Context}
use Rattle.checker.specs.declared.context.Location.{Location}
use Rattle.checker.specs.Contexts.{at, is_in, kind_of, same_kind, lies_within, lies_at, region_of, with_variable, opened, placed, parted, unparted}
use Rattle.checker.specs.Conditions.{Program, branch_form}
use Rattle.checker.specs.Rules.{Asked, Typed, Branch}
use Rattle.checker.specs.Verdict.{Done, Arm, Answer, refused, asking, done_with, alike, asked, Reader, Follower, further, locating, branching, branch_at, home_of, following, choosing, row_with, row_of, term_of, follow_of}
use Rattle.checker.specs.First.{Breaks, Breaks.scope_broken, Breaks.kind_broken, Breaks.frontier_broken, Breaks.place_broken, Locates, Locates.start, Locates.past, Locates.after, Fails, Fails.own, Fails.missing, Fails.stray, Fails.in_region, Fails.in_located, Fails.unsettled, Fails.in_bound, Fails.bound_kind, Fails.bound_place, Fails.in_body, Fails.back_body, Fails.in_arm, Fails.in_other, Fails.back_other, Fails.arms_differ, Fails.in_branch, Fails.in_later, Fails.back_branch, FailsBranch, FailsBranch.no_branch, FailsBranch.branch_own, FailsBranch.unknown_form, FailsBranch.in_child, FailsBranch.value_stays, FailsLater, FailsLater.later_branch, FailsLater.later_differs, FailsLater.later_on, FailsLater.later_back}
use Rattle.checker.proofs.Inversions.{ok-onward, ok-asked}
use Rattle.checker.proofs.Scopes.{kept, kept-branch}
use Rattle.checker.proofs.Typing.{alike_self, restored, at-kind, typed-term, typed-branch}
use Rattle.checker.proofs.Failing.{Scoped, branch-or-none}

pub err-onward : {A B : Type 0} (r : Result A Fault) (f : A → Result B Fault) {e : Fault} → r ≡ Err e → onward r f ≡ Err e
err-onward r f h = rw h

-- a test that fails, and one that holds
pub no_test : {B : Type 0} (b : Bool) (why : Reason) (n : ℕ) (f : Unit {0} → Result B Fault) → b ≡ false → onward (asking b why n) f ≡ Err (found why 3 n)
no_test b why n f h = rw h

pub ok-test : {B : Type 0} (b : Bool) (why : Reason) (n : ℕ) (f : Unit {0} → Result B Fault) → b ≡ true → onward (asking b why n) f ≡ f tt
ok-test b why n f h = rw h

breaks-of : (P : Program) (c : Context) (n : ℕ) (r : Row) {e : Fault} → Breaks P c n r e → asked P c n r ≡ Err e
breaks-of P c n r (scope_broken s) = rw s
breaks-of P c n r (kind_broken s k) = rw (s, k)
breaks-of P c n r (frontier_broken s k f) = rw (s, k, f)
breaks-of P c n r (place_broken s k f p) = rw (s, k, f, p)

-- What the check answers at every fuel that suffices.
pub record Grants (P : Program) (c : Context) (n : ℕ) (k : Kind) (d : Context) : Type 0 where
  pub granted : (fuel : ℕ) → length P.rows ≤ n + fuel → term_of P fuel n c ≡ Ok (done_with k d)

pub record Refuses (P : Program) (c : Context) (n : ℕ) (e : Fault) : Type 0 where
  pub refusal : (fuel : ℕ) → length P.rows ≤ n + fuel → term_of P fuel n c ≡ Err e

pub record GrantsBranch (P : Program) (c : Context) (r : Option ℕ) (n : ℕ) (k : Kind) (d : Context) (m : ℕ) : Type 0 where
  pub granted : (fuel : ℕ) → length P.rows ≤ n + 1 + fuel → branch_at P (term_of P fuel) n r c (slice_get P.rows n) ≡ Ok (record { done = done_with k d; next = m })

pub record RefusesBranch (P : Program) (c : Context) (r : Option ℕ) (n : ℕ) (e : Fault) : Type 0 where
  pub refusal : (fuel : ℕ) → length P.rows ≤ n + 1 + fuel → branch_at P (term_of P fuel) n r c (slice_get P.rows n) ≡ Err e

pub record RefusesLater (P : Program) (c : Context) (r : Option ℕ) (n : ℕ) (k : Kind) (d : Context) (b : ℕ) (e : Fault) : Type 0 where
  pub refusal : (fuel : ℕ) (w : Context) → length P.rows ≤ b + fuel → Scoped w c → follow_of P fuel n c r b w (done_with k d) ≡ Err e

module _ (P : Program) where
  further-on : (read : Reader P) (n m : ℕ) (c : Context) → n < m → further P read n m c ≡ read m c
  further-on read n m c h = rw (lt-ltb n m h)

  further-back : (read : Reader P) (n m : ℕ) (c : Context) → m ≤ n → further P read n m c ≡ refused reason.RowOrder n
  further-back read n m c h = let t : ltb n m ≡ false = grind (arith, nat_tests) in rw t

  following-on : (follow : Follower P) (b m : ℕ) (first d : Done) → b < m → following P follow b m first d ≡ follow m d.after first
  following-on follow b m first d h = let z : eqb m 0 ≡ false = grind (arith, nat_tests) in rw (z, lt-ltb b m h)

  following-back : (follow : Follower P) (b m : ℕ) (first d : Done) → 0 < m → m ≤ b → following P follow b m first d ≡ refused reason.RowOrder b
  following-back follow b m first d h le = let z : eqb m 0 ≡ false = grind (arith, nat_tests) in let t : ltb b m ≡ false = grind (arith, nat_tests) in rw (z, t)

  located-row : {c : Context} {r : Row} {l : ℕ} {p : Location} → Locates c r l p → (read : Reader P) (follow : ℕ → Context → Option ℕ → Follower P) (n : ℕ) → row_with P read follow n c r ≡ locating P read n l p c
  located-row start read follow n = refl
  located-row past read follow n = refl
  located-row after read follow n = refl

  -- Rows.
  at_row : {c : Context} {n : ℕ} {r : Row} {e : Fault} → slice_get P.rows n ≡ Some r
      → ((fuel : ℕ) → length P.rows ≤ n + 1 + fuel → row_of P (term_of P fuel) (follow_of P fuel) n c r ≡ Err e) → Refuses P c n e
  at_row {c} {n} {r} {e} i h = record { refusal = go }
    where
      go : (fuel : ℕ) → length P.rows ≤ n + fuel → term_of P fuel n c ≡ Err e
      go zero le = let lt = slice_get_within P.rows n _ i in absurd (omega arith)
      go (suc fuel) le = subst (λ o. either o (refused reason.RowOrder n) (row_of P (term_of P fuel) (follow_of P fuel) n c) ≡ Err e) (sym i) (h fuel (omega arith))

  within-row : {c : Context} {n : ℕ} {r : Row} {e : Fault} → slice_get P.rows n ≡ Some r → Asked P c n r
      → ((fuel : ℕ) → length P.rows ≤ n + 1 + fuel → row_with P (term_of P fuel) (follow_of P fuel) n c r ≡ Err e) → Refuses P c n e
  within-row {c} {n} {r} i q h = at_row i (λ fuel le. ok-onward (asked P c n r) _ (ok-asked P c n r q) ∙ h fuel le)

  on-own : {c : Context} {n : ℕ} {r : Row} {e : Fault} → slice_get P.rows n ≡ Some r → Breaks P c n r e → Refuses P c n e
  on-own {c} {n} {r} i b = at_row i (λ fuel le. err-onward (asked P c n r) _ (breaks-of P c n r b))

  on-missing : {c : Context} {n : ℕ} → slice_get P.rows n ≡ None → Refuses P c n (found reason.RowOrder 3 n)
  on-missing {c} {n} i = record { refusal = go }
    where
      go : (fuel : ℕ) → length P.rows ≤ n + fuel → term_of P fuel n c ≡ refused reason.RowOrder n
      go zero le = refl
      go (suc fuel) le = subst (λ o. either o (refused reason.RowOrder n) (row_of P (term_of P fuel) (follow_of P fuel) n c) ≡ refused reason.RowOrder n) (sym i) refl

  on-stray : {c : Context} {n form x l m : ℕ} → slice_get P.rows n ≡ Some (row.Branch form x l m) → Asked P c n (row.Branch form x l m) → Refuses P c n (found reason.RowOrder 3 n)
  on-stray i q = within-row i q (λ fuel le. refl)

  on-region : {c : Context} {n s room : ℕ} {e : Fault} → slice_get P.rows n ≡ Some (row.Region s room) → Asked P c n (row.Region s room) → Refuses P (opened c s) (n + 1) e → Refuses P c n e
  on-region {c} {n} {s} i q h = within-row i q (λ fuel le. err-onward (term_of P fuel (n + 1) (opened c s)) _ (h.refusal fuel le))

  on-located : {c : Context} {n l : ℕ} {r : Row} {p : Location} {e : Fault} → slice_get P.rows n ≡ Some r → Locates c r l p → Asked P c n r → Refuses P (placed c l p) (n + 1) e → Refuses P c n e
  on-located {c} {n} {l} {r} {p} i w q h = within-row i q (λ fuel le. located-row w (term_of P fuel) (follow_of P fuel) n ∙ err-onward (term_of P fuel (n + 1) (placed c l p)) _ (h.refusal fuel le))

  on-unsettled : {c d : Context} {n l : ℕ} {r : Row} {p : Location} {k : Kind} → slice_get P.rows n ≡ Some r → Locates c r l p → Asked P c n r → Grants P (placed c l p) (n + 1) k d
      → (not (is_in d.progress.unwritten l) && not (lies_within k l 1)) ≡ false → Refuses P c n (found reason.ChildLeft 3 n)
  on-unsettled {c} {d} {n} {l} {r} {p} {k} i w q t s = within-row i q (λ fuel le. located-row w (term_of P fuel) (follow_of P fuel) n ∙ ok-onward (term_of P fuel (n + 1) (placed c l p)) _ (t.granted fuel le) ∙ no_test _ reason.ChildLeft n _ s)

  on-bound : {c : Context} {n x t l m : ℕ} {e : Fault} → slice_get P.rows n ≡ Some (row.Let x t l m) → Asked P c n (row.Let x t l m) → Refuses P c (n + 1) e → Refuses P c n e
  on-bound {c} {n} i q h = within-row i q (λ fuel le. err-onward (term_of P fuel (n + 1) c) _ (h.refusal fuel le))

  on-bound-kind : {c d : Context} {n x t l m : ℕ} {k : Kind} → slice_get P.rows n ≡ Some (row.Let x t l m) → Asked P c n (row.Let x t l m) → Grants P c (n + 1) k d → same_kind k (kind_of t l) ≡ false → Refuses P c n (found reason.Kind 3 n)
  on-bound-kind {c} {d} {n} i q g s = within-row i q (λ fuel le. ok-onward (term_of P fuel (n + 1) c) _ (g.granted fuel le) ∙ no_test _ reason.Kind n _ s)

  on-bound-place : {c d : Context} {n x t l m : ℕ} {k : Kind} → slice_get P.rows n ≡ Some (row.Let x t l m) → Asked P c n (row.Let x t l m) → Grants P c (n + 1) k d → same_kind k (kind_of t l) ≡ true → lies_at k l ≡ false → Refuses P c n (found reason.Unwritten 3 n)
  on-bound-place {c} {d} {n} i q g s u = within-row i q (λ fuel le. ok-onward (term_of P fuel (n + 1) c) _ (g.granted fuel le) ∙ ok-test _ reason.Kind n _ s ∙ no_test _ reason.Unwritten n _ u)

  on-body : {c d : Context} {n x t l m : ℕ} {e : Fault} → slice_get P.rows n ≡ Some (row.Let x t l m) → Asked P c n (row.Let x t l m) → Grants P c (n + 1) (kind_of t l) d → n < m → Refuses P (with_variable d x (Some (kind_of t l))) m e → Refuses P c n e
  on-body {c} {d} {n} {x} {t} {l} {m} i q g lt h =
      within-row i q (λ fuel le. ok-onward (term_of P fuel (n + 1) c) _ (g.granted fuel le) ∙ ok-test _ reason.Kind n _ (at-kind t l).0 ∙ ok-test _ reason.Unwritten n _ (at-kind t l).1
      ∙ err-onward (further P (term_of P fuel) n m (with_variable d x (Some (kind_of t l)))) _ (further-on (term_of P fuel) n m (with_variable d x (Some (kind_of t l))) lt ∙ h.refusal fuel (omega arith)))

  on-back-body : {c d : Context} {n x t l m : ℕ} → slice_get P.rows n ≡ Some (row.Let x t l m) → Asked P c n (row.Let x t l m) → Grants P c (n + 1) (kind_of t l) d → m ≤ n → Refuses P c n (found reason.RowOrder 3 n)
  on-back-body {c} {d} {n} {x} {t} {l} {m} i q g back =
      within-row i q (λ fuel le. ok-onward (term_of P fuel (n + 1) c) _ (g.granted fuel le) ∙ ok-test _ reason.Kind n _ (at-kind t l).0 ∙ ok-test _ reason.Unwritten n _ (at-kind t l).1
      ∙ err-onward (further P (term_of P fuel) n m (with_variable d x (Some (kind_of t l)))) _ (further-back (term_of P fuel) n m (with_variable d x (Some (kind_of t l))) back))

  on-arm : {c : Context} {n x y m : ℕ} {e : Fault} → slice_get P.rows n ≡ Some (row.Test x y m) → Asked P c n (row.Test x y m) → Refuses P c (n + 1) e → Refuses P c n e
  on-arm {c} {n} i q h = within-row i q (λ fuel le. err-onward (term_of P fuel (n + 1) c) _ (h.refusal fuel le))

  -- the other arm of a test starts in the context of the first
  other_arm : {c d : Context} {n x y m : ℕ} {k : Kind} {e : Fault} → slice_get P.rows n ≡ Some (row.Test x y m) → Asked P c n (row.Test x y m) → Grants P c (n + 1) k d → Scoped d c
      → ((fuel : ℕ) → length P.rows ≤ n + 1 + fuel → onward (further P (term_of P fuel) n m c) (λ y. onward (asking (alike k d.progress y.kind y.after.progress) reason.ArmsDiffer n) (λ _. Ok y)) ≡ Err e) → Refuses P c n e
  other_arm {c} {d} {n} {x} {y} {m} {k} {e} i q g s h =
      within-row i q (λ fuel le. ok-onward (term_of P fuel (n + 1) c) _ (g.granted fuel le)
      ∙ subst (λ w. onward (further P (term_of P fuel) n m w) (λ y. onward (asking (alike k d.progress y.kind y.after.progress) reason.ArmsDiffer n) (λ _. Ok y)) ≡ Err e) (sym (restored c d s)) (h fuel le))

  on-other : {c d : Context} {n x y m : ℕ} {k : Kind} {e : Fault} → slice_get P.rows n ≡ Some (row.Test x y m) → Asked P c n (row.Test x y m) → Grants P c (n + 1) k d → Scoped d c → n < m → Refuses P c m e → Refuses P c n e
  on-other {c} {d} {n} {x} {y} {m} i q g s lt h = other_arm i q g s (λ fuel le. err-onward (further P (term_of P fuel) n m c) _ (further-on (term_of P fuel) n m c lt ∙ h.refusal fuel (omega arith)))

  on-back-other : {c d : Context} {n x y m : ℕ} {k : Kind} → slice_get P.rows n ≡ Some (row.Test x y m) → Asked P c n (row.Test x y m) → Grants P c (n + 1) k d → Scoped d c → m ≤ n → Refuses P c n (found reason.RowOrder 3 n)
  on-back-other {c} {d} {n} {x} {y} {m} i q g s back = other_arm i q g s (λ fuel le. err-onward (further P (term_of P fuel) n m c) _ (further-back (term_of P fuel) n m c back))

  on-differ : {c d b : Context} {n x y m : ℕ} {k j : Kind} → slice_get P.rows n ≡ Some (row.Test x y m) → Asked P c n (row.Test x y m) → Grants P c (n + 1) k d → Scoped d c → n < m → Grants P c m j b
      → alike k d.progress j b.progress ≡ false → Refuses P c n (found reason.ArmsDiffer 3 n)
  on-differ {c} {d} {b} {n} {x} {y} {m} {k} {j} i q g s lt h differ =
      other_arm i q g s (λ fuel le. ok-onward (further P (term_of P fuel) n m c) _ (further-on (term_of P fuel) n m c lt ∙ h.granted fuel (omega arith)) ∙ no_test (alike k d.progress j b.progress) reason.ArmsDiffer n _ differ)

  -- Cases.
  within-case : {c : Context} {n x t l : ℕ} {e : Fault} → slice_get P.rows n ≡ Some (row.Case x) → Asked P c n (row.Case x) → at c.variables x ≡ Some (kind.Tree t l)
      → ((fuel : ℕ) → length P.rows ≤ n + 1 + fuel → choosing P (term_of P fuel) (follow_of P fuel n) n (region_of c l) c ≡ Err e) → Refuses P c n e
  within-case {c} {n} {x} {t} {l} {e} i q tree h = within-row i q (λ fuel le. subst (λ o. choosing P (term_of P fuel) (follow_of P fuel n) n (home_of P c o) c ≡ Err e) (sym tree) (h fuel le))

  on_branch : {c : Context} {n x t l : ℕ} {e : Fault} → slice_get P.rows n ≡ Some (row.Case x) → Asked P c n (row.Case x) → at c.variables x ≡ Some (kind.Tree t l) → RefusesBranch P c (region_of c l) (n + 1) e → Refuses P c n e
  on_branch {c} {n} {x} {t} {l} i q tree h = within-case i q tree (λ fuel le. err-onward (branch_at P (term_of P fuel) (n + 1) (region_of c l) c (slice_get P.rows (n + 1))) _ (h.refusal fuel (omega arith)))

  on-later : {c d : Context} {n x t l m : ℕ} {k : Kind} {e : Fault} → slice_get P.rows n ≡ Some (row.Case x) → Asked P c n (row.Case x) → at c.variables x ≡ Some (kind.Tree t l) → GrantsBranch P c (region_of c l) (n + 1) k d m → Scoped d c
      → n + 1 < m → RefusesLater P c (region_of c l) n k d m e → Refuses P c n e
  on-later {c} {d} {n} {x} {t} {l} {m} {k} i q tree g s lt h =
      within-case i q tree (λ fuel le. ok-onward (branch_at P (term_of P fuel) (n + 1) (region_of c l) c (slice_get P.rows (n + 1))) _ (g.granted fuel (omega arith))
      ∙ following-on (follow_of P fuel n c (region_of c l)) (n + 1) m (done_with k d) (done_with k d) lt ∙ h.refusal fuel d (omega arith) s)

  on-back-branch : {c d : Context} {n x t l m : ℕ} {k : Kind} → slice_get P.rows n ≡ Some (row.Case x) → Asked P c n (row.Case x) → at c.variables x ≡ Some (kind.Tree t l) → GrantsBranch P c (region_of c l) (n + 1) k d m
      → 0 < m → m ≤ n + 1 → Refuses P c n (found reason.RowOrder 3 (n + 1))
  on-back-branch {c} {d} {n} {x} {t} {l} {m} {k} i q tree g some back =
      within-case i q tree (λ fuel le. ok-onward (branch_at P (term_of P fuel) (n + 1) (region_of c l) c (slice_get P.rows (n + 1))) _ (g.granted fuel (omega arith))
      ∙ following-back (follow_of P fuel n c (region_of c l)) (n + 1) m (done_with k d) (done_with k d) some back)

  -- Branches.
  on-no-branch : {c : Context} {r : Option ℕ} {n : ℕ} → branch_form (slice_get P.rows n) ≡ None → RefusesBranch P c r n (found reason.RowOrder 3 n)
  on-no-branch {c} {r} {n} h = record {
    refusal = λ fuel le.
        elim (branch-or-none P (slice_get P.rows n)) [
          | inl a ↦ a.1 (term_of P fuel) n r c
          | inr a ↦ let s = ap branch_form a.4 in cc
        ];
  }

  at-branch : {c : Context} {r : Option ℕ} {n form x l m : ℕ} {e : Fault} → slice_get P.rows n ≡ Some (row.Branch form x l m)
      → ((fuel : ℕ) → length P.rows ≤ n + 1 + fuel → branching P (term_of P fuel) n r c form x l m ≡ Err e) → RefusesBranch P c r n e
  at-branch {c} {r} {n} {e = e} i h = record { refusal = λ fuel le. subst (λ o. branch_at P (term_of P fuel) n r c o ≡ Err e) (sym i) (h fuel le) }

  on-branch-own : {c : Context} {r : Option ℕ} {n form x l m : ℕ} {e : Fault} → slice_get P.rows n ≡ Some (row.Branch form x l m) → Breaks P c n (row.Branch form x l m) e → RefusesBranch P c r n e
  on-branch-own {c} {r} {n} {form} {x} {l} {m} i b = at-branch i (λ fuel le. err-onward (asked P c n (row.Branch form x l m)) _ (breaks-of P c n (row.Branch form x l m) b))

  abbrev entered-branch : Context → Option ℕ → ℕ → ℕ → ℕ → ℕ → ℕ → Constructor → Result Arm Fault
  entered-branch c r n x l m fuel f =
      onward (term_of P fuel (n + 1) (parted c r f x l)) (λ d.
      onward (asking (not (lies_within d.kind l f.fields.subtrees)) reason.ChildLeft n) (λ _.
      Ok (record { done = done_with d.kind (unparted d.after r f x l); next = m })))

  within-branch : {c : Context} {r : Option ℕ} {n form x l m : ℕ} {e : Fault} (o : Option Constructor) → slice_get P.rows n ≡ Some (row.Branch form x l m) → Asked P c n (row.Branch form x l m) → slice_get P.forms form ≡ o
      → ((fuel : ℕ) → length P.rows ≤ n + 1 + fuel → either o (refused reason.Kind n) (entered-branch c r n x l m fuel) ≡ Err e) → RefusesBranch P c r n e
  within-branch {c} {r} {n} {form} {x} {l} {m} {e} o i q w h =
      at-branch i (λ fuel le. ok-onward (asked P c n (row.Branch form x l m)) _ (ok-asked P c n (row.Branch form x l m) q)
      ∙ subst (λ p. either p (refused reason.Kind n) (entered-branch c r n x l m fuel) ≡ Err e) (sym w) (h fuel le))

  on-unknown : {c : Context} {r : Option ℕ} {n form x l m : ℕ} → slice_get P.rows n ≡ Some (row.Branch form x l m) → Asked P c n (row.Branch form x l m) → slice_get P.forms form ≡ None → RefusesBranch P c r n (found reason.Kind 3 n)
  on-unknown i q w = within-branch None i q w (λ fuel le. refl)

  on-child : {c : Context} {r : Option ℕ} {n form x l m : ℕ} {f : Constructor} {e : Fault} → slice_get P.rows n ≡ Some (row.Branch form x l m) → Asked P c n (row.Branch form x l m) → slice_get P.forms form ≡ Some f
      → Refuses P (parted c r f x l) (n + 1) e → RefusesBranch P c r n e
  on-child {c} {r} {n} {form} {x} {l} {m} {f} i q w h = within-branch (Some f) i q w (λ fuel le. err-onward (term_of P fuel (n + 1) (parted c r f x l)) _ (h.refusal fuel le))

  on-stays : {c d : Context} {r : Option ℕ} {n form x l m : ℕ} {k : Kind} {f : Constructor} → slice_get P.rows n ≡ Some (row.Branch form x l m) → Asked P c n (row.Branch form x l m) → slice_get P.forms form ≡ Some f
      → Grants P (parted c r f x l) (n + 1) k d → lies_within k l f.fields.subtrees ≡ true → RefusesBranch P c r n (found reason.ChildLeft 3 n)
  on-stays {c} {d} {r} {n} {form} {x} {l} {m} {k} {f} i q w g s =
      within-branch (Some f) i q w (λ fuel le. ok-onward (term_of P fuel (n + 1) (parted c r f x l)) _ (g.granted fuel le) ∙ no_test (not (lies_within k l f.fields.subtrees)) reason.ChildLeft n _ (ap not s))

  -- Later branches.
  abbrev resumed : Context → Option ℕ → ℕ → ℕ → Done → ℕ → Arm → Answer
  resumed c r n b first fuel a =
      onward (asking (alike first.kind first.after.progress a.done.kind a.done.after.progress) reason.ArmsDiffer n) (λ _.
      following P (follow_of P fuel n c r) b a.next first a.done)

  at-later : {c d : Context} {r : Option ℕ} {n b : ℕ} {k : Kind} {e : Fault}
      → ((fuel : ℕ) → length P.rows ≤ b + 1 + fuel → onward (branch_at P (term_of P fuel) b r c (slice_get P.rows b)) (resumed c r n b (done_with k d) fuel) ≡ Err e) → RefusesLater P c r n k d b e
  at-later {c} {d} {r} {n} {b} {k} {e} h = record { refusal = go }
    where
      go : (fuel : ℕ) (w : Context) → length P.rows ≤ b + fuel → Scoped w c → follow_of P fuel n c r b w (done_with k d) ≡ Err e
      go zero w le s = subst (λ o. onward (branch_at P (term_of P zero) b r c o) (resumed c r n b (done_with k d) zero) ≡ Err e) (slice_get_past P.rows b (omega arith)) (h zero (omega arith))
      go (suc fuel) w le s = subst (λ v. onward (branch_at P (term_of P fuel) b r v (slice_get P.rows b)) (resumed c r n b (done_with k d) fuel) ≡ Err e) (sym (restored c w s)) (h fuel (omega arith))

  on-later-branch : {c d : Context} {r : Option ℕ} {n b : ℕ} {k : Kind} {e : Fault} → RefusesBranch P c r b e → RefusesLater P c r n k d b e
  on-later-branch {c} {d} {r} {n} {b} h = at-later (λ fuel le. err-onward (branch_at P (term_of P fuel) b r c (slice_get P.rows b)) _ (h.refusal fuel le))

  on-later-differs : {c d w : Context} {r : Option ℕ} {n b m : ℕ} {k j : Kind} → GrantsBranch P c r b j w m → alike k d.progress j w.progress ≡ false → RefusesLater P c r n k d b (found reason.ArmsDiffer 3 n)
  on-later-differs {c} {d} {w} {r} {n} {b} {m} {k} {j} g s = at-later (λ fuel le. ok-onward (branch_at P (term_of P fuel) b r c (slice_get P.rows b)) _ (g.granted fuel le) ∙ no_test (alike k d.progress j w.progress) reason.ArmsDiffer n _ s)

  on-later-on : {c d : Context} {r : Option ℕ} {n b m : ℕ} {k : Kind} {e : Fault} → GrantsBranch P c r b k d m → Scoped d c → b < m → RefusesLater P c r n k d m e → RefusesLater P c r n k d b e
  on-later-on {c} {d} {r} {n} {b} {m} {k} g s lt h =
      at-later (λ fuel le. ok-onward (branch_at P (term_of P fuel) b r c (slice_get P.rows b)) _ (g.granted fuel le) ∙ ok-test (alike k d.progress k d.progress) reason.ArmsDiffer n _ (alike_self k d.progress)
      ∙ following-on (follow_of P fuel n c r) b m (done_with k d) (done_with k d) lt ∙ h.refusal fuel d (omega arith) s)

  on-later-back : {c d : Context} {r : Option ℕ} {n b m : ℕ} {k : Kind} → GrantsBranch P c r b k d m → 0 < m → m ≤ b → RefusesLater P c r n k d b (found reason.RowOrder 3 b)
  on-later-back {c} {d} {r} {n} {b} {m} {k} g some back =
      at-later (λ fuel le. ok-onward (branch_at P (term_of P fuel) b r c (slice_get P.rows b)) _ (g.granted fuel le) ∙ ok-test (alike k d.progress k d.progress) reason.ArmsDiffer n _ (alike_self k d.progress)
      ∙ following-back (follow_of P fuel n c r) b m (done_with k d) (done_with k d) some back)

  grants : {c d : Context} {n : ℕ} {k : Kind} → Typed P c n k d → Grants P c n k d
  grants t = record { granted = typed-term P t }

  grants-branch : {c d : Context} {r : Option ℕ} {n m : ℕ} {k : Kind} → Branch P c r n k d m → GrantsBranch P c r n k d m
  grants-branch t = record { granted = typed-branch P t }

  mutual
    refuses : {c : Context} {n : ℕ} {e : Fault} → Fails P c n e → Refuses P c n e
    refuses (own i b) = on-own i b
    refuses (missing i) = on-missing i
    refuses (stray i q) = on-stray i q
    refuses (in_region i q f) = on-region i q (refuses f)
    refuses (in_located i w q f) = on-located i w q (refuses f)
    refuses (unsettled i w q t s) = on-unsettled i w q (grants t) s
    refuses (in_bound i q f) = on-bound i q (refuses f)
    refuses (bound_kind i q t s) = on-bound-kind i q (grants t) s
    refuses (bound_place i q t s u) = on-bound-place i q (grants t) s u
    refuses (in_body i q t lt f) = on-body i q (grants t) lt (refuses f)
    refuses (back_body i q t le) = on-back-body i q (grants t) le
    refuses (in_arm i q f) = on-arm i q (refuses f)
    refuses (in_other i q t lt f) = on-other i q (grants t) (kept t) lt (refuses f)
    refuses (back_other i q t le) = on-back-other i q (grants t) (kept t) le
    refuses (arms_differ i q t lt u s) = on-differ i q (grants t) (kept t) lt (grants u) s
    refuses (in_branch i q t f) = on_branch i q t (refuses-branch f)
    refuses (in_later i q t b lt f) = on-later i q t (grants-branch b) (kept-branch b) lt (refuses-later f)
    refuses (back_branch i q t b some le) = on-back-branch i q t (grants-branch b) some le

    refuses-branch : {c : Context} {r : Option ℕ} {n : ℕ} {e : Fault} → FailsBranch P c r n e → RefusesBranch P c r n e
    refuses-branch (no_branch s) = on-no-branch s
    refuses-branch (branch_own i b) = on-branch-own i b
    refuses-branch (unknown_form i q w) = on-unknown i q w
    refuses-branch (in_child i q w f) = on-child i q w (refuses f)
    refuses-branch (value_stays i q w t s) = on-stays i q w (grants t) s

    refuses-later : {c : Context} {r : Option ℕ} {n : ℕ} {k : Kind} {d : Context} {b : ℕ} {e : Fault} → FailsLater P c r n k d b e → RefusesLater P c r n k d b e
    refuses-later (later_branch f) = on-later-branch (refuses-branch f)
    refuses-later (later_differs b s) = on-later-differs (grants-branch b) s
    refuses-later (later_on b lt f) = on-later-on (grants-branch b) (kept-branch b) lt (refuses-later f)
    refuses-later (later_back b some le) = on-later-back (grants-branch b) some le

  pub fails-term : {c : Context} {n : ℕ} {e : Fault} → Fails P c n e → (fuel : ℕ) → length P.rows ≤ n + fuel → term_of P fuel n c ≡ Err e
  fails-term f = (refuses f).refusal

  pub fails-branch : {c : Context} {r : Option ℕ} {n : ℕ} {e : Fault} → FailsBranch P c r n e → (fuel : ℕ) → length P.rows ≤ n + 1 + fuel → branch_at P (term_of P fuel) n r c (slice_get P.rows n) ≡ Err e
  fails-branch f = (refuses-branch f).refusal

  pub fails-later : {c : Context} {r : Option ℕ} {n : ℕ} {k : Kind} {d : Context} {b : ℕ} {e : Fault} → FailsLater P c r n k d b e → (fuel : ℕ) (w : Context) → length P.rows ≤ b + fuel → Scoped w c → follow_of P fuel n c r b w (done_with k d) ≡ Err e
  fails-later f = (refuses-later f).refusal
