-- The verdict's fault is the first one of the program, and the first one is the verdict's.
use Rattle.std.proofs.Common.{◌≡◌, ℕ, zero, suc, ◌<◌, ◌⊎◌, List, [], ◌∷◌, length, Some, Ok, Err, sym, refl, ◌∙◌, inl, inr, arith}
use Rattle.std.specs.List.{slice_get}
use Rattle.packed.specs.declared.fault.Fault.{Fault}
use Rattle.packed.specs.declared.fault.Reason.TheVariants as reason
use Rattle.table.specs.declared.function.Function.{Function}
use Rattle.checker.specs.Contexts.{kind_of, same_kind, begun}
use Rattle.checker.specs.Conditions.{Program}
use Rattle.checker.specs.Verdict.{done_with, term_of, ended, body_of, bodies_of, verdict_of}
use Rattle.checker.specs.First.{FailsBody, FailsBody.inside, FailsBody.wrong_kind, FailsBody.wrong_place, Broken}
use Rattle.checker.proofs.Inversions.{ok-err, some-none, onward-err, ok-onward, test-err}
use Rattle.checker.proofs.Typing.{term-typed, typed-term, body_typed, typed-body}
use Rattle.checker.proofs.Failing.{term-fails}
use Rattle.checker.proofs.Refusing.{err-onward, no_test, ok-test, fails-term}

module _ (P : Program) where
  pub body-fails : (f : Function) (e : Fault) → body_of P f ≡ Err e → FailsBody P f e
  body-fails f e h =
      elim (onward-err (term_of P (length P.rows) f.first (begun f)) _ h) [
        | inl a ↦ inside (term-fails P (length P.rows) f.first (begun f) e (omega arith) a)
        | inr a ↦
            let d = a.0 in
            let typed = term-typed P (length P.rows) f.first (begun f) d a.1 in
            elim (test-err (same_kind d.kind (kind_of f.result 0)) reason.Kind f.first _ a.2) [
              | inl b ↦ rw b.1 (wrong_kind typed b.0)
              | inr b ↦ elim (test-err (ended P f d) reason.Unwritten f.first _ b.1) [
                | inl s ↦ rw s.1 (wrong_place typed b.0 s.0)
                | inr s ↦ absurd (ok-err s.1)
              ]
            ]
      ]

  pub fails-body : (f : Function) {e : Fault} → FailsBody P f e → body_of P f ≡ Err e
  fails-body f (inside t) = err-onward (term_of P (length P.rows) f.first (begun f)) _ (fails-term P t (length P.rows) (omega arith))
  fails-body f (wrong_kind {k = k} t s) =
      ok-onward (term_of P (length P.rows) f.first (begun f)) _ (typed-term P t (length P.rows) (omega arith)) ∙ no_test (same_kind k (kind_of f.result 0)) reason.Kind f.first _ s
  fails-body f (wrong_place {d = d} {k = k} t s u) =
      ok-onward (term_of P (length P.rows) f.first (begun f)) _ (typed-term P t (length P.rows) (omega arith)) ∙ ok-test (same_kind k (kind_of f.result 0)) reason.Kind f.first _ s
      ∙ no_test (ended P f (done_with k d)) reason.Unwritten f.first _ u

  -- the first of several functions that fails
  record Stops (fs : List Function) (e : Fault) : Type 0 where
    number : ℕ
    function : Function
    here : slice_get fs number ≡ Some function
    before : (j : ℕ) (g : Function) → j < number → slice_get fs j ≡ Some g → body_of P g ≡ Ok tt
    first : body_of P function ≡ Err e

  stops-later : (f : Function) (fs : List Function) (e : Fault) → body_of P f ≡ Ok tt → Stops fs e → Stops (f ∷ fs) e
  stops-later f fs e h s = record { number = suc s.number; function = s.function; here = s.here; before = before; first = s.first }
    where
      before : (j : ℕ) (g : Function) → j < suc s.number → slice_get (f ∷ fs) j ≡ Some g → body_of P g ≡ Ok tt
      before zero g lt i = let same : g ≡ f = cc in rw same h
      before (suc j) g lt i = s.before j g (omega arith) i

  bodies-stop : (fs : List Function) (e : Fault) → bodies_of P fs ≡ Err e → Stops fs e
  bodies-stop [] e h = absurd (ok-err h)
  bodies-stop (f ∷ fs) e h = go (onward-err (body_of P f) _ h) (bodies-stop fs e)
    where
      go : (body_of P f ≡ Err e) ⊎ ((u : Unit {0}) × (body_of P f ≡ Ok u) × (bodies_of P fs ≡ Err e)) → (bodies_of P fs ≡ Err e → Stops fs e) → Stops (f ∷ fs) e
      go (inl a) more = record { number = 0; function = f; here = refl; before = λ j g lt i. absurd (omega arith); first = a }
      go (inr a) more = stops-later f fs e a.1 (more a.2)

  stop-bodies : (fs : List Function) (i : ℕ) (f : Function) (e : Fault) → slice_get fs i ≡ Some f → ((j : ℕ) (g : Function) → j < i → slice_get fs j ≡ Some g → body_of P g ≡ Ok tt) → body_of P f ≡ Err e → bodies_of P fs ≡ Err e
  stop-bodies [] i f e h before first = absurd (some-none (sym h))
  stop-bodies (g ∷ fs) zero f e h before first = let same : g ≡ f = cc in err-onward (body_of P g) _ (rw same first)
  stop-bodies (g ∷ fs) (suc i) f e h before first = ok-onward (body_of P g) _ (before zero g (omega arith) refl) ∙ stop-bodies fs i f e h (λ j k lt w. before (suc j) k (omega arith) w) first

  pub verdict-broken : (e : Fault) → verdict_of P ≡ Err e → Broken P e
  verdict-broken e h =
      let s = bodies-stop P.functions e h in
      record { number = s.number; function = s.function; here = s.here; before = λ j g lt i. body_typed P g (s.before j g lt i); first = body-fails s.function e s.first }

  pub broken-verdict : (e : Fault) → Broken P e → verdict_of P ≡ Err e
  broken-verdict e b = stop-bodies P.functions b.number b.function e b.here (λ j g lt i. typed-body P g (b.before j g lt i)) (fails-body b.function b.first)
