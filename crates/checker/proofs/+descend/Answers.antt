use Rattle.std.proofs.Common.{◌≡◌, Err, sym, refl, ap, ◌∙◌, inl, inr, arith}
use Rattle.std.proofs.lemmas.Result.{err_from_is_err_and}
use Rattle.checker.specs.Described.{program_of}
use Rattle.checker.specs.Giving.{Gives}
use Rattle.checker.proofs.Descending.{term-none, term-row, follow-on}
use Rattle.checker.proofs.Refusing.{err-onward}
use Rattle.checker.proofs.+descend.Goals as goal

pub descent::Descent::term-returns-in_default : goal.descent::Descent::term-returns-in_default
descent::Descent::term-returns-in_default t c = record { gives = λ f l. term-none (program_of c.args.self.now) c.args.at c.args.cx.now c.in_default.ensures.value f ∙ ap Err (sym c.fault.ensures.value) }

pub descent::Descent::term-returns : goal.descent::Descent::term-returns
descent::Descent::term-returns t c = record { gives = term-row (program_of c.args.self.now) c.args.at c.args.cx.now _ c.in-Some.row c.row.result (omega arith) c.in-Some.ensures.value c.row.ensures.gives }

pub descent::RowAt::row-returns-in-Construct : goal.descent::RowAt::row-returns-in-Construct
descent::RowAt::row-returns-in-Construct t c = rw c.in-Construct.is (record { gives = λ f l. c.construct_row.ensures.gives })

pub descent::RowAt::row-returns-in-Call : goal.descent::RowAt::row-returns-in-Call
descent::RowAt::row-returns-in-Call t c = rw c.in-Call.is (record { gives = λ f l. c.call_row.ensures.gives })

pub descent::RowAt::row-returns-in-Sum : goal.descent::RowAt::row-returns-in-Sum
descent::RowAt::row-returns-in-Sum t c = elim c.in-Sum.is [
  | inl e ↦ rw e (record { gives = c.sum_row.ensures.gives })
  | inr e ↦ rw e (record { gives = c.sum_row.ensures.gives })
]

pub descent::RowAt::row-returns-in-Branch : goal.descent::RowAt::row-returns-in-Branch
descent::RowAt::row-returns-in-Branch t c = rw c.in-Branch.is (record { gives = c.stray_branch.ensures.gives })

pub rows::branches::Case::follow-returns-in_err-arm : goal.rows::branches::Case::follow-returns-in_err-arm
rows::branches::Case::follow-returns-in_err-arm t c =
    let k = c.args.self.now in
    let p = err_from_is_err_and c.from_residual.result c.from_residual.ensures.1 in
    rw (p.1 ∙ ap Err p.2) (record { gives = follow-on (program_of k.row.program.now) k.row.at k.home c.args.b c.args.cx.now k.start k.kind k.end (Err c.in_err-arm.field-0.0) c.in_err-arm.ensures.gives (λ a. a ≡ Err c.in_err-arm.field-0.0) (λ f x d p q s l. refl) })

pub rows::branches::Case::follow-returns-in_err-ask_alike : goal.rows::branches::Case::follow-returns-in_err-ask_alike
rows::branches::Case::follow-returns-in_err-ask_alike t c =
    let k = c.args.self.now in
    let p = err_from_is_err_and c.from_residual-in_err-ask_alike.result c.from_residual-in_err-ask_alike.ensures.1 in
    rw (p.1 ∙ ap Err p.2) (record { gives = follow-on (program_of k.row.program.now) k.row.at k.home c.args.b c.args.cx.now k.start k.kind k.end _ c.in_ok-arm.ensures.gives (λ a. a ≡ Err c.in_err-ask_alike.field-0.0) (λ f x d p q s l. err-onward _ _ (sym c.in_err-ask_alike.ensures.value)) })

pub rows::branches::Case::follow-returns : goal.rows::branches::Case::follow-returns
rows::branches::Case::follow-returns t c =
    let k = c.args.self.now in
    record { gives = follow-on (program_of k.row.program.now) k.row.at k.home c.args.b c.args.cx.now k.start k.kind k.end _ c.in_ok-arm.ensures.gives (λ a. Gives c.behind.result c.behind.new.cx a) (λ f x d p q s l. rw (← c.in_ok-ask_alike.ensures.value) (c.behind.ensures.gives f x d p q s l)) }
