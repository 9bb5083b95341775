-- What the functions of the descent answer.
use Rattle.std.specs.Prelude.{◌≡◌, ℕ, ◌+◌, ◌≤◌, length, Ok, Err, Option, Result}
use Rattle.packed.specs.declared.fault.Fault.{Fault}
use Rattle.packed.specs.Forms.{either}
use Rattle.table.specs.declared.row.Row.{Row}
use Rattle.table.specs.Held.{rows_of}
use Rattle.checker.specs.declared.kind.Kind.{Kind}
use Rattle.checker.specs.declared.context.Context.{Context}
use Rattle.checker.specs.declared.descent.RowAt.{RowAt}
use Rattle.checker.specs.declared.rows.arm.Arm.{Arm as CodeArm}
use Rattle.checker.specs.declared.rows.branches.Case.{Case}
use Rattle.checker.specs.Described.{program_of}
use Rattle.checker.specs.Verdict.{Answer, Arm, Done, done_with, row_of, term_of, follow_of}

-- an answer is this one, and where it is no refusal the context behind it
abbrev pub Gives : Result Kind Fault → Context → Answer → Type 0
Gives (Ok k) c a = a ≡ Ok (done_with k c)
Gives (Err e) c a = a ≡ Err e

-- at a row of this kind, from a context: the check's answer, wherever its fuel is enough for the rows behind
abbrev pub GivesRow : RowAt → Row → Context → Result Kind Fault → Context → Type 0
GivesRow here r c result d = (f : ℕ) → length (rows_of here.program.now.rows) ≤ here.at + 1 + f → Gives result d (row_of (program_of here.program.now) (term_of (program_of here.program.now) f) (follow_of (program_of here.program.now) f) here.at c r)

-- the number of the row of a branch, 0 for none
abbrev pub link : Option ℕ → ℕ
link next = either next 0 (λ n. n)

abbrev pub GivesArm : Result CodeArm Fault → Context → Result Arm Fault → Type 0
GivesArm (Ok m) c a = a ≡ Ok (record { done = done_with m.kind c; next = link m.next })
GivesArm (Err e) c a = a ≡ Err e

-- from row n on, in a case's context, where its first branch gave what the case says
abbrev pub GivesLater : Case → ℕ → (ℕ → Context → Done → Answer) → Result Kind Fault → Context → Type 0
GivesLater case n answer result d = (f : ℕ) (c : Context) (first : Done) → c.progress ≡ case.start → first.kind ≡ case.kind → first.after.progress ≡ case.end → length (rows_of case.row.program.now.rows) ≤ n + f → Gives result d (answer f c first)
