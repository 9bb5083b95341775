-- From one row to the next: the verdict on a row, and on the branches behind the first of a case, as the descent comes to it.
use Rattle.std.proofs.Common.{◌≡◌, ℕ, zero, suc, ◌+◌, ◌<◌, ◌≤◌, length, Some, None, Option, Result, sym, refl, ap, ◌∙◌, subst, arith}
use Rattle.std.specs.List.{slice_get}
use Rattle.std.proofs.lemmas.Option.{slice_get_past}
use Rattle.packed.specs.declared.fault.Fault.{Fault}
use Rattle.packed.specs.declared.fault.Reason.TheVariants as reason
use Rattle.packed.specs.Forms.{either}
use Rattle.table.specs.declared.row.Row.{Row}
use Rattle.table.specs.Sections.{onward}
use Rattle.checker.specs.declared.kind.Kind.{Kind}
use Rattle.checker.specs.declared.context.Context.{Context}
use Rattle.checker.specs.declared.context.Progress.{Progress}
use Rattle.checker.specs.Contexts.{with_progress}
use Rattle.checker.specs.Conditions.{Program}
use Rattle.checker.specs.Giving.{Gives}
use Rattle.checker.specs.Verdict.{Done, Arm, Answer, refused, asking, alike, Reader, row_of, branch_at, following, term_of, follow_of}

module _ (P : Program) where
  pub term-none : (n : ℕ) (c : Context) → None ≡ slice_get P.rows n → (f : ℕ) → term_of P f n c ≡ refused reason.RowOrder n
  term-none n c e zero = refl
  term-none n c e (suc f) = ap (λ o. either o (refused reason.RowOrder n) (row_of P (term_of P f) (follow_of P f) n c)) (sym e)

  pub term-row : (n : ℕ) (c d : Context) (q : Row) (r : Result Kind Fault) → n < length P.rows → Some q ≡ slice_get P.rows n
      → ((f : ℕ) → length P.rows ≤ n + 1 + f → Gives r d (row_of P (term_of P f) (follow_of P f) n c q))
      → (f : ℕ) → length P.rows ≤ n + f → Gives r d (term_of P f n c)
  term-row n c d q r h e row zero l = absurd (omega arith)
  term-row n c d q r h e row (suc f) l = subst (λ o. Gives r d (either o (refused reason.RowOrder n) (row_of P (term_of P f) (follow_of P f) n c))) e (row f (omega arith))

  pub branch-past : (read : Reader P) (b : ℕ) (r : Option ℕ) (c : Context) → length P.rows ≤ b → branch_at P read b r c (slice_get P.rows b) ≡ refused reason.RowOrder b
  branch-past read b r c h = ap (branch_at P read b r c) (slice_get_past P.rows b h)

  -- The branches from row b on, where the case had come as far as s and its first branch gave k and came as far as e.
  module _ (n : ℕ) (r : Option ℕ) (b : ℕ) (d : Context) (s : Progress) (k : Kind) (e : Progress) where
    -- what is behind the branch at row b, where that gave a
    abbrev behind : ℕ → Context → Done → Result Arm Fault → Answer
    behind f c first a = onward a (λ a. onward (asking (alike k e a.done.kind a.done.after.progress) reason.ArmsDiffer n) (λ _. following P (follow_of P f n c r) b a.next first a.done))

    pub follow-on : (a : Result Arm Fault)
        → ((f : ℕ) → length P.rows ≤ b + 1 + f → branch_at P (term_of P f) b r (with_progress d s) (slice_get P.rows b) ≡ a)
        → (x : Answer → Type 0)
        → ((f : ℕ) (c : Context) (first : Done) → c.progress ≡ s → first.kind ≡ k → first.after.progress ≡ e → length P.rows ≤ b + 1 + f → x (behind f c first a))
        → (f : ℕ) (c : Context) (first : Done) → c.progress ≡ s → first.kind ≡ k → first.after.progress ≡ e → length P.rows ≤ b + f → x (follow_of P f n c r b d first)
    follow-on a here x then zero c first p q t l =
        let enough : length P.rows ≤ b + 1 + 0 = omega arith in
        subst (λ y. x (behind 0 c first y)) (sym (here 0 enough) ∙ branch-past (term_of P 0) b r (with_progress d s) (omega arith)) (then 0 c first p q t enough)
    follow-on a here x then (suc f) c first p q t l =
        let enough : length P.rows ≤ b + 1 + f = omega arith in
        subst (λ y. x (onward (branch_at P (term_of P f) b r (with_progress d y) (slice_get P.rows b)) (λ a. onward (asking (alike first.kind first.after.progress a.done.kind a.done.after.progress) reason.ArmsDiffer n) (λ _. following P (follow_of P f n c r) b a.next first a.done)))) (sym p)
        (subst (λ y. x (onward (branch_at P (term_of P f) b r (with_progress d s) (slice_get P.rows b)) (λ a. onward (asking (alike y first.after.progress a.done.kind a.done.after.progress) reason.ArmsDiffer n) (λ _. following P (follow_of P f n c r) b a.next first a.done)))) (sym q)
        (subst (λ y. x (onward (branch_at P (term_of P f) b r (with_progress d s) (slice_get P.rows b)) (λ a. onward (asking (alike k y a.done.kind a.done.after.progress) reason.ArmsDiffer n) (λ _. following P (follow_of P f n c r) b a.next first a.done)))) (sym t)
        (subst (λ y. x (behind f c first y)) (sym (here f enough)) (then f c first p q t enough))))
