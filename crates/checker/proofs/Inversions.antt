-- What an answer says of its parts: which test held, which part was refused.
use Rattle.std.proofs.Common.{◌≡◌, ℕ, Bool, true, false, cond, ◌&&◌, ◌⊎◌, Some, None, Ok, Err, Option, Result, sym, refl, inl, inr}
use Rattle.packed.specs.declared.fault.Fault.{Fault}
use Rattle.packed.specs.declared.fault.Reason.{Reason}
use Rattle.packed.specs.declared.fault.Reason.TheVariants as reason
use Rattle.packed.specs.Forms.{either}
use Rattle.table.specs.declared.row.Row.{Row}
use Rattle.packed.specs.Faults.{found}
use Rattle.table.specs.Sections.{onward}
use Rattle.checker.specs.declared.context.Context.{Context}
use Rattle.checker.specs.Conditions.{Program, names, kinds, rules, places}
use Rattle.checker.specs.Verdict.{refused, asking, asked}
use Rattle.checker.specs.Rules.{Asked}
use Rattle.checker.specs.First.{Breaks, scope_broken, kind_broken, frontier_broken, place_broken}

-- Answers never both grant and refuse.
pub ok-err : {A : Type 0} {x : A} {e : Fault} → Ok x ≡ Err e → ⊥
ok-err h = cc

pub err-ok : {A : Type 0} {x : A} {e : Fault} → Err e ≡ Ok x → ⊥
err-ok h = cc

pub true-false : true ≡ false → ⊥
true-false h = cc

pub some-none : {A : Type 0} {x : A} → Some x ≡ None → ⊥
some-none h = cc

-- One part after another.
pub onward-ok : {A B : Type 0} (r : Result A Fault) (f : A → Result B Fault) {y : B} → onward r f ≡ Ok y → (x : A) × (r ≡ Ok x) × (f x ≡ Ok y)
onward-ok (Ok x) f h = (x, refl, h)
onward-ok (Err e) f h = absurd (err-ok h)

pub onward-err : {A B : Type 0} (r : Result A Fault) (f : A → Result B Fault) {e : Fault} → onward r f ≡ Err e → (r ≡ Err e) ⊎ ((x : A) × (r ≡ Ok x) × (f x ≡ Err e))
onward-err (Ok x) f h = inr (x, refl, h)
onward-err (Err e) f h = inl (cc)

pub ok-onward : {A B : Type 0} (r : Result A Fault) (f : A → Result B Fault) {x : A} → r ≡ Ok x → onward r f ≡ f x
ok-onward r f e = rw e

-- A test, then more.
pub test-ok : {B : Type 0} (b : Bool) (why : Reason) (n : ℕ) (f : Unit {0} → Result B Fault) {y : B} → onward (asking b why n) f ≡ Ok y → (b ≡ true) × (f tt ≡ Ok y)
test-ok true why n f h = (refl, h)
test-ok false why n f h = absurd (err-ok h)

pub test-err : {B : Type 0} (b : Bool) (why : Reason) (n : ℕ) (f : Unit {0} → Result B Fault) {e : Fault} → onward (asking b why n) f ≡ Err e → ((b ≡ false) × (e ≡ found why 3 n)) ⊎ ((b ≡ true) × (f tt ≡ Err e))
test-err true why n f h = inr (refl, h)
test-err false why n f h = inl (refl, cc)

-- a part that is there, or else a refusal
pub either-ok : {A B : Type 0} (o : Option A) (why : Reason) (n : ℕ) (f : A → Result B Fault) {y : B} → either o (refused why n) f ≡ Ok y → (x : A) × (o ≡ Some x) × (f x ≡ Ok y)
either-ok (Some x) why n f h = (x, refl, h)
either-ok None why n f h = absurd (err-ok h)

pub either-err : {A B : Type 0} (o : Option A) (why : Reason) (n : ℕ) (f : A → Result B Fault) {e : Fault} → either o (refused why n) f ≡ Err e → ((o ≡ None) × (e ≡ found why 3 n)) ⊎ ((x : A) × (o ≡ Some x) × (f x ≡ Err e))
either-err (Some x) why n f h = inr (x, refl, h)
either-err None why n f h = inl (refl, cc)

-- one of two ways
pub cond-ok : {B : Type 0} (b : Bool) (r : Result B Fault) (why : Reason) (n : ℕ) {y : B} → cond b r (refused why n) ≡ Ok y → (b ≡ true) × (r ≡ Ok y)
cond-ok true r why n h = (refl, h)
cond-ok false r why n h = absurd (err-ok h)

pub cond-err : {B : Type 0} (b : Bool) (r : Result B Fault) (why : Reason) (n : ℕ) {e : Fault} → cond b r (refused why n) ≡ Err e → ((b ≡ false) × (e ≡ found why 3 n)) ⊎ ((b ≡ true) × (r ≡ Err e))
cond-err true r why n h = inr (refl, h)
cond-err false r why n h = inl (refl, cc)

-- Two that hold.
pub and-true : (a b : Bool) → (a && b) ≡ true → (a ≡ true) × (b ≡ true)
and-true true b h = (refl, h)
and-true false b h = absurd (true-false (sym h))

-- A row's own conditions.
module _ (P : Program) where
  pub asked-ok : (c : Context) (n : ℕ) (r : Row) → asked P c n r ≡ Ok tt → Asked P c n r
  asked-ok c n r h =
      let p = test-ok (names P c r) reason.Scope n _ h in
      let q = test-ok (kinds P c n r) reason.Kind n _ p.1 in
      let s = test-ok (rules P c r) reason.LocationRule n _ q.1 in
      let t = test-ok (places P c r) reason.Unwritten n _ s.1 in
      record { scope = p.0; kind = q.0; frontier = s.0; place = t.0 }

  pub ok-asked : (c : Context) (n : ℕ) (r : Row) → Asked P c n r → asked P c n r ≡ Ok tt
  ok-asked c n r a = rw (a.scope, a.kind, a.frontier, a.place)

  pub asked-err : (c : Context) (n : ℕ) (r : Row) {e : Fault} → asked P c n r ≡ Err e → Breaks P c n r e
  asked-err c n r {e} h = at_names (test-err (names P c r) reason.Scope n _ h)
    where
      at_places : names P c r ≡ true → kinds P c n r ≡ true → rules P c r ≡ true → ((places P c r ≡ false) × (e ≡ found reason.Unwritten 3 n)) ⊎ ((places P c r ≡ true) × (Ok (tt {0}) ≡ Err e)) → Breaks P c n r e
      at_places a b g (inl x) = rw x.1 (place_broken a b g x.0)
      at_places a b g (inr x) = absurd (ok-err x.1)

      at-rules : names P c r ≡ true → kinds P c n r ≡ true → ((rules P c r ≡ false) × (e ≡ found reason.LocationRule 3 n)) ⊎ ((rules P c r ≡ true) × (onward (asking (places P c r) reason.Unwritten n) (λ _. Ok (tt {0})) ≡ Err e)) → Breaks P c n r e
      at-rules a b (inl x) = rw x.1 (frontier_broken a b x.0)
      at-rules a b (inr x) = at_places a b x.0 (test-err (places P c r) reason.Unwritten n _ x.1)

      at-kinds : names P c r ≡ true → ((kinds P c n r ≡ false) × (e ≡ found reason.Kind 3 n)) ⊎ ((kinds P c n r ≡ true) × (onward (asking (rules P c r) reason.LocationRule n) (λ _. onward (asking (places P c r) reason.Unwritten n) (λ _. Ok (tt {0}))) ≡ Err e)) → Breaks P c n r e
      at-kinds a (inl x) = rw x.1 (kind_broken a x.0)
      at-kinds a (inr x) = at-rules a x.0 (test-err (rules P c r) reason.LocationRule n _ x.1)

      at_names : ((names P c r ≡ false) × (e ≡ found reason.Scope 3 n)) ⊎ ((names P c r ≡ true) × (onward (asking (kinds P c n r) reason.Kind n) (λ _. onward (asking (rules P c r) reason.LocationRule n) (λ _. onward (asking (places P c r) reason.Unwritten n) (λ _. Ok (tt {0})))) ≡ Err e)) → Breaks P c n r e
      at_names (inl x) = rw x.1 (scope_broken x.0)
      at_names (inr x) = at-kinds x.0 (test-err (kinds P c n r) reason.Kind n _ x.1)
