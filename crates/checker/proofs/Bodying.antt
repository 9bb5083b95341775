-- Functions in order, one more at a time.
use Rattle.std.proofs.Common.{◌≡◌, ℕ, suc, ◌+◌, ◌-◌, ◌<◌, ◌≤◌, List, [], ◌∷◌, length, get_or, drop, Some, Ok, Option, Result, sym, refl, ap, subst, ◌∙◌, arith}
use Rattle.std.specs.Fn.{Called}
use Rattle.std.specs.Iterator.Adapters.{filter_map_source, filter_map_callee, filter_map_steps}
use Rattle.std.specs.List.{slice_get, range_with_len, filter_map}
use Rattle.std.specs.declared.iter.FilterMap.{FilterMap}
use Rattle.std.specs.declared.ops.Range.{Range}
use Rattle.std.proofs.iter.Yields.{nat_range_steps}
use Rattle.std.proofs.lemmas.Iterator.{YieldsList, YieldsList-from_range}
use Rattle.std.proofs.lemmas.Iterator.Consumers.{YieldsList-from_filter_map}
use Rattle.std.proofs.lemmas.List.{at_drop_more, at_drop_all}
use denote.Param.Members.{Mut}
use Rattle.packed.specs.declared.fault.Fault.{Fault}
use Rattle.table.specs.declared.function.Function.{Function}
use Rattle.table.specs.Sections.{onward}
use Rattle.checker.specs.declared.context.Context.{Context}
use Rattle.checker.specs.Contexts.{parameter, entered}
use Rattle.checker.specs.Conditions.{Program}
use Rattle.checker.specs.Verdict.{body_of, bodies_of}

pub entered-turn : (c d whole : Context) (ts : List ℕ) (j n t : ℕ) → j < n → d ≡ parameter c j t → t ≡ get_or ts j 0 → entered c ts j (n - j) ≡ whole → entered d ts (j + 1) (n - (j + 1)) ≡ whole
entered-turn c d whole ts j n t h e same inv =
    let k : n - j ≡ suc (n - (j + 1)) = omega arith in
    ap (λ c. entered c ts (j + 1) (n - (j + 1))) (e ∙ ap (parameter c j) same) ∙ sym (ap (entered c ts j) k) ∙ inv

-- what is read at the places of a list, from the first to the last, is the list
read-in_order : {X : Type 0} (read : ℕ → Option X) (a : ℕ) (xs : List X) → ((i : ℕ) → read (a + i) ≡ slice_get xs i) → filter_map read (range_with_len a (length xs)) ≡ xs
read-in_order read a [] h = refl
read-in_order read a (x ∷ xs) h =
    let first : read a ≡ Some x = ap read (let z : a ≡ a + 0 = omega arith in z) ∙ h 0 in
    rw first (ap (λ ys. x ∷ ys) (read-in_order read (a + 1) xs (λ i. ap read (let z : a + 1 + i ≡ a + suc i = omega arith in z) ∙ h (suc i))))

-- a chain that reads the functions by number gives them
pub functions-read : {F : Type 0} {s : FilterMap (Range ℕ) F} (g : Mut F (ℕ × Unit {0}) (Option Function)) (f : F) (fs : List Function) → filter_map_source s ≡ record { start = 0; end = length fs } → filter_map_callee s ≡ f → ((x : ℕ) (r : Option Function) (q : F) → Called g f (x, tt) r q → (q ≡ f) × (r ≡ slice_get fs x)) → YieldsList (filter_map_steps nat_range_steps g) (λ y. y) s fs
functions-read {s = s} g f fs e k reads =
    let road = YieldsList-from_filter_map g (slice_get fs) (YieldsList-from_range 0 (length fs) (length fs) e (omega arith)) k reads in
    let given : List Function → Type 0 = YieldsList (filter_map_steps nat_range_steps g) (λ y. y) s in
    subst given (read-in_order (slice_get fs) 0 fs (λ i. ap (slice_get fs) (let z : 0 + i ≡ i = omega arith in z))) road

-- behind the body of function i, which gave r
pub bodies-step : (P : Program) (fs : List Function) (whole : Result (Unit {0}) Fault) (i : ℕ) (f : Function) (r : Result (Unit {0}) Fault) → (i < length fs) × (f ≡ get_or fs i f) → r ≡ body_of P f → bodies_of P (drop i fs) ≡ whole → onward r (λ _. bodies_of P (drop (i + 1) fs)) ≡ whole
bodies-step P fs whole i f r t b inv =
    ap (λ r. onward r (λ _. bodies_of P (drop (i + 1) fs))) (b ∙ ap (body_of P) t.1) ∙ sym (at_drop_more (bodies_of P) fs i f t.0) ∙ inv

pub bodies-done : (P : Program) (fs : List Function) (whole : Result (Unit {0}) Fault) (i : ℕ) → length fs ≤ i → bodies_of P (drop i fs) ≡ whole → Ok tt ≡ whole
bodies-done P fs whole i h inv = sym (at_drop_all (bodies_of P) fs i h) ∙ inv
