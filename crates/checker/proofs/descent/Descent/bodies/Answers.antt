use Rattle.std.proofs.Common.{length, drop, Ok, Err, refl, ap, ◌∙◌, arith, rules}
use Rattle.std.proofs.lemmas.Iterator.Consumers.{YieldsList-turn, YieldsList-end}
use Rattle.std.proofs.lemmas.List.{length_push}
use Rattle.std.proofs.lemmas.Result.{err_from_is_err_and}
use borrow.Author.Tests.{tests}
use Rattle.table.specs.Held.{functions_of}
use Rattle.checker.specs.Described.{program_of}
use Rattle.checker.specs.Verdict.{bodies_of}
use Rattle.checker.proofs.Bodying.{functions-read, bodies-step, bodies-done}
use Rattle.checker.proofs.descent.Descent.bodies.Goals as goal

pub loop-function-preserved : goal.loop-function-preserved
loop-function-preserved c =
    let fs = functions_of c.args.self.now.functions in
    let t = YieldsList-turn (functions-read {s = c.into_iter-function-iterator.result} _ c.into_iter-function-iterator.result.f fs (cc) refl (λ x r q k. search (rules, tests))) c.loop-function.yielded c.loop-function.function-iterator c.loop-function.yielded_by c.next.result c.next.new.self c.in-Some.function c.in-Some.is c.next.ensures.steps in
    ap (λ n. bodies_of (program_of c.args.self.now) (drop n fs)) (length_push c.loop-function.yielded c.in-Some.function)
    ∙ bodies-step (program_of c.args.self.now) fs _ (length c.loop-function.yielded) c.in-Some.function (Ok tt) t c.in_ok-body.ensures.value c.loop-function.invariant

pub returns-in_err-body : goal.returns-in_err-body
returns-in_err-body c =
    let fs = functions_of c.args.self.now.functions in
    let t = YieldsList-turn (functions-read {s = c.into_iter-function-iterator.result} _ c.into_iter-function-iterator.result.f fs (cc) refl (λ x r q k. search (rules, tests))) c.loop-function.yielded c.loop-function.function-iterator c.loop-function.yielded_by c.next.result c.next.new.self c.in-Some.function c.in-Some.is c.next.ensures.steps in
    let p = err_from_is_err_and c.from_residual.result c.from_residual.ensures.1 in
    record {
      value = p.1 ∙ ap Err p.2 ∙ bodies-step (program_of c.args.self.now) fs _ (length c.loop-function.yielded) c.in-Some.function (Err c.in_err-body.field-0.0) t c.in_err-body.ensures.value c.loop-function.invariant;
    }

pub returns : goal.returns
returns c =
    let fs = functions_of c.args.self.now.functions in
    let t = YieldsList-end (functions-read {s = c.into_iter-function-iterator.result} _ c.into_iter-function-iterator.result.f fs (cc) refl (λ x r q k. search (rules, tests))) c.loop-function.yielded c.loop-function.function-iterator c.loop-function.yielded_by c.next.result c.next.new.self c.in-None.is c.next.ensures.steps in
    record { value = bodies-done (program_of c.args.self.now) fs _ (length c.loop-function.yielded) (omega (arith, t.1)) c.loop-function.invariant }
