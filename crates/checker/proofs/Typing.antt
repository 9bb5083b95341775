-- The check and the typing rules say the same: what is granted is typed, and what is typed is granted.
use Rattle.std.proofs.Common.{◌≡◌, ℕ, zero, suc, ◌+◌, ◌<◌, ◌≤◌, Bool, true, false, cond, not, ◌&&◌, ◌||◌, eqb, ltb, List, [], ◌∷◌, length, Some, None, Ok, Option, Result, sym, refl, ap, ◌∙◌, subst, arith}
use Rattle.std.specs.List.{slice_get}
use Rattle.std.proofs.lemmas.Bool.Decides.{nat_tests}
use Rattle.std.proofs.lemmas.Bool.{eq-eqb, eqb-true, lt-ltb, ltb-true, not-true}
use Rattle.std.specs.Cmp.Derive.{both_true}
use Rattle.std.proofs.lemmas.Option.{slice_get_within}
use Rattle.packed.specs.declared.constructor.Constructor.{Constructor}
use Rattle.packed.specs.declared.fault.Fault.{Fault}
use Rattle.packed.specs.declared.fault.Reason.TheVariants as reason
use Rattle.packed.specs.Forms.{either}
use Rattle.table.specs.declared.function.Function.{Function}
use Rattle.table.specs.declared.row.Row.{Row}
use Rattle.table.specs.declared.row.Row.TheVariants as row
use Rattle.table.specs.Sections.{onward}
use Rattle.checker.specs.declared.kind.Kind.{Kind}
use Rattle.checker.specs.declared.kind.Kind.TheVariants as kind
use Rattle.checker.specs.declared.context.Context.{Context}
use Rattle.checker.specs.declared.context.Progress.{Progress}
use Rattle.checker.specs.declared.context.Location.{Location}
use Rattle.checker.specs.declared.context.Rule.TheVariants as rule
use Rattle.checker.specs.declared.context.Frontier.{Frontier}
use Rattle.checker.specs.declared.context.Frontier.TheVariants as frontier
use Rattle.checker.specs.Contexts.{at, is_in, kind_of, same_kind, lies_within, lies_at, is_at, region_of, frontier_in, with_variable, with_progress, opened, placed, left, parted, unparted, begun}
use Rattle.checker.specs.Conditions.{Program, takes_apart}
use Rattle.checker.specs.Verdict.{Done, Arm, Answer, refused, asking, done_with, same_value, same_frontier, same_bit, same_list, same_progress, alike, asked, Reader, further, settled, locating, binding, testing, branching, branch_at, home_of, Follower, following, choosing, row_with, row_of, term_of, follow_of, ended, body_of, bodies_of, verdict_of}
use Rattle.checker.specs.Rules.{Asked, Settled, Typed, Arms, Branch, Body, WellTyped, variable, number, sum, difference, region, start, past, after, construct, bind, test, call, case, last, more, branch}
use Rattle.checker.proofs.Inversions.{err-ok, true-false, some-none, onward-ok, test-ok, either-ok, cond-ok, and-true, asked-ok, ok-asked}
use Rattle.checker.proofs.Scopes.{kept, kept-branch}

-- Tests of sameness are true of the same only, and of the same always.
same-value : (k j : Kind) → same_value k j ≡ true → k ≡ j
same-value kind.Integer kind.Integer h = refl
same-value kind.Integer (kind.Tree t l) h = absurd (true-false (sym h))
same-value (kind.Tree s m) kind.Integer h = absurd (true-false (sym h))
same-value (kind.Tree s m) (kind.Tree t l) h =
    let p = and-true (eqb s t) (eqb m l) h in
    let a : s ≡ t = eqb-true s t p.0 in
    let b : m ≡ l = eqb-true m l p.1 in
    cc

value-self : (k : Kind) → same_value k k ≡ true
value-self kind.Integer = refl
value-self (kind.Tree t l) = both_true (eq-eqb t t refl) (eq-eqb l l refl)

same-frontier : (a b : Option Frontier) → same_frontier a b ≡ true → a ≡ b
same-frontier None None h = refl
same-frontier None (Some f) h = absurd (true-false (sym h))
same-frontier (Some frontier.Nothing) None h = absurd (true-false (sym h))
same-frontier (Some (frontier.At m)) None h = absurd (true-false (sym h))
same-frontier (Some frontier.Shut) None h = absurd (true-false (sym h))
same-frontier (Some frontier.Nothing) (Some frontier.Nothing) h = refl
same-frontier (Some frontier.Nothing) (Some (frontier.At l)) h = absurd (true-false (sym h))
same-frontier (Some frontier.Nothing) (Some frontier.Shut) h = absurd (true-false (sym h))
same-frontier (Some (frontier.At m)) (Some frontier.Nothing) h = absurd (true-false (sym h))
same-frontier (Some (frontier.At m)) (Some (frontier.At l)) h = ap (λ (n : ℕ). Some (frontier.At n)) (eqb-true m l h)
same-frontier (Some (frontier.At m)) (Some frontier.Shut) h = absurd (true-false (sym h))
same-frontier (Some frontier.Shut) (Some frontier.Nothing) h = absurd (true-false (sym h))
same-frontier (Some frontier.Shut) (Some (frontier.At l)) h = absurd (true-false (sym h))
same-frontier (Some frontier.Shut) (Some frontier.Shut) h = refl

frontier-self : (a : Option Frontier) → same_frontier a a ≡ true
frontier-self None = refl
frontier-self (Some frontier.Nothing) = refl
frontier-self (Some (frontier.At m)) = eq-eqb m m refl
frontier-self (Some frontier.Shut) = refl

bit-same : (a b : Bool) → same_bit a b ≡ true → a ≡ b
bit-same true b h = sym h
bit-same false b h = sym (not-true b h)

bit-self : (a : Bool) → same_bit a a ≡ true
bit-self true = refl
bit-self false = refl

same-list : {X : Type 0} (same : X → X → Bool) → ((x y : X) → same x y ≡ true → x ≡ y) → (xs ys : List X) → same_list same xs ys ≡ true → xs ≡ ys
same-list same f [] [] h = refl
same-list same f [] (y ∷ ys) h = absurd (true-false (sym h))
same-list same f (x ∷ xs) [] h = absurd (true-false (sym h))
same-list same f (x ∷ xs) (y ∷ ys) h =
    let p = and-true (same x y) (same_list same xs ys) h in
    let a : x ≡ y = f x y p.0 in
    let b : xs ≡ ys = same-list same f xs ys p.1 in
    cc

list-self : {X : Type 0} (same : X → X → Bool) → ((x : X) → same x x ≡ true) → (xs : List X) → same_list same xs xs ≡ true
list-self same f [] = refl
list-self same f (x ∷ xs) = both_true (f x) (list-self same f xs)

same-progress : (p q : Progress) → same_progress p q ≡ true → p ≡ q
same-progress p q h =
    let s = and-true (same_list same_frontier p.frontiers q.frontiers) (same_list same_bit p.unwritten q.unwritten) h in
    let a = same-list same_frontier same-frontier p.frontiers q.frontiers s.0 in
    let b = same-list same_bit bit-same p.unwritten q.unwritten s.1 in
    λ i. record { frontiers = a i; unwritten = b i }

progress-self : (p : Progress) → same_progress p p ≡ true
progress-self p = both_true (list-self same_frontier frontier-self p.frontiers) (list-self same_bit bit-self p.unwritten)

pub alike_self : (k : Kind) (p : Progress) → alike k p k p ≡ true
alike_self k p = both_true (value-self k) (progress-self p)

-- Contexts with the same in scope.
abbrev Kept : Context → Context → Type 0
Kept c d = (d.variables ≡ c.variables) × (d.locations ≡ c.locations)

same-context : (c d : Context) → d.variables ≡ c.variables → d.locations ≡ c.locations → d.progress ≡ c.progress → d ≡ c
same-context c d p q r = λ i. record { variables = p i; locations = q i; progress = r i }

-- the context of a row once more, for another arm
pub restored : (c d : Context) → (d.variables ≡ c.variables) × (d.locations ≡ c.locations) → with_progress d c.progress ≡ c
restored c d k = λ i. record { variables = k.0 i; locations = k.1 i; progress = c.progress }

-- arms that end alike, of one row, end the same
pub alike-done : (c : Context) (d e : Done) → (d.after.variables ≡ c.variables) × (d.after.locations ≡ c.locations) → (e.after.variables ≡ c.variables) × (e.after.locations ≡ c.locations)
    → alike d.kind d.after.progress e.kind e.after.progress ≡ true → e ≡ d
alike-done c d e p q h =
    let s = and-true (same_value d.kind e.kind) (same_progress d.after.progress e.after.progress) h in
    let a = same-value d.kind e.kind s.0 in
    let b = same-progress d.after.progress e.after.progress s.1 in
    let g = same-context d.after e.after (q.0 ∙ sym p.0) (q.1 ∙ sym p.1) (sym b) in
    λ i. record { kind = sym a i; after = g i }

-- a value of the same kind that lies where it is asked for
pub kind_at : (k : Kind) (t l : ℕ) → same_kind k (kind_of t l) ≡ true → lies_at k l ≡ true → k ≡ kind_of t l
kind_at k t l p q = go k (eqb t 254) p q
  where
    go : (k : Kind) (b : Bool) → same_kind k (cond b kind.Integer (kind.Tree t l)) ≡ true → lies_at k l ≡ true → k ≡ cond b kind.Integer (kind.Tree t l)
    go kind.Integer true p q = refl
    go kind.Integer false p q = absurd (true-false (sym p))
    go (kind.Tree s m) true p q = absurd (true-false (sym p))
    go (kind.Tree s m) false p q = let a : s ≡ t = eqb-true s t p in let b : m ≡ l = eqb-true m l q in cc

pub at-kind : (t l : ℕ) → (same_kind (kind_of t l) (kind_of t l) ≡ true) × (lies_at (kind_of t l) l ≡ true)
at-kind t l = go (eqb t 254)
  where
    go : (b : Bool) → (same_kind (cond b kind.Integer (kind.Tree t l)) (cond b kind.Integer (kind.Tree t l)) ≡ true) × (lies_at (cond b kind.Integer (kind.Tree t l)) l ≡ true)
    go true = (refl, refl)
    go false = (eq-eqb t t refl, eq-eqb l l refl)

-- what a case takes apart is a tree
pub apart : (P : Program) (n : ℕ) (o : Option Kind) → takes_apart P n o ≡ true → (t : ℕ) × (l : ℕ) × (o ≡ Some (kind.Tree t l))
apart P n None h = absurd (true-false (sym h))
apart P n (Some kind.Integer) h = absurd (true-false (sym h))
apart P n (Some (kind.Tree t l)) h = (t, l, refl)

-- a frontier that is location 0
frontier-at : (o : Option Frontier) → is_at 0 o ≡ true → o ≡ Some (frontier.At 0)
frontier-at None h = absurd (true-false (sym h))
frontier-at (Some frontier.Nothing) h = absurd (true-false (sym h))
frontier-at (Some (frontier.At m)) h = ap (λ (n : ℕ). Some (frontier.At n)) (eqb-true m 0 h)
frontier-at (Some frontier.Shut) h = absurd (true-false (sym h))

-- a body that gives a value of its function's kind, and ends as its function says
body-kind : (k : Kind) (t : ℕ) (at-end : Bool) → same_kind k (kind_of t 0) ≡ true → (eqb t 254 || (lies_at k 0 && at-end)) ≡ true → (k ≡ kind_of t 0) × ((t ≡ 254 → ⊥) → at-end ≡ true)
body-kind k t at-end p q = go k (eqb t 254) refl p q
  where
    go : (k : Kind) (z : Bool) → eqb t 254 ≡ z → same_kind k (cond z kind.Integer (kind.Tree t 0)) ≡ true → (z || (lies_at k 0 && at-end)) ≡ true → (k ≡ cond z kind.Integer (kind.Tree t 0)) × ((t ≡ 254 → ⊥) → at-end ≡ true)
    go kind.Integer true e p q = (refl, λ no. absurd (no (eqb-true t 254 e)))
    go (kind.Tree s m) true e p q = absurd (true-false (sym p))
    go kind.Integer false e p q = absurd (true-false (sym p))
    go (kind.Tree s m) false e p q =
        let u = and-true (eqb m 0) at-end q in
        let a : s ≡ t = eqb-true s t p in
        let b : m ≡ 0 = eqb-true m 0 u.0 in
        (cc, λ no. u.1)

body_ended : (t : ℕ) (o : Option Frontier) → ((t ≡ 254 → ⊥) → o ≡ Some (frontier.At 0)) → (eqb t 254 || (lies_at (kind_of t 0) 0 && is_at 0 o)) ≡ true
body_ended t o h = go (eqb t 254) refl
  where
    apart_from : eqb t 254 ≡ false → t ≡ 254 → ⊥
    apart_from e q = true-false (sym (eq-eqb 254 254 refl) ∙ ap (λ n. eqb n 254) (sym q) ∙ e)

    go : (z : Bool) → eqb t 254 ≡ z → (z || (lies_at (cond z kind.Integer (kind.Tree t 0)) 0 && is_at 0 o)) ≡ true
    go true e = refl
    go false e = rw (h (apart_from e))

module _ (P : Program) where
  typed-as : {c : Context} {n : ℕ} {k : Kind} {e : Context} (d : Done) → ◌≡◌ {A = Answer} (Ok (done_with k e)) (Ok d) → Typed P c n k e → Typed P c n d.kind d.after
  typed-as {k = k} {e = e} d h t = let q : d ≡ done_with k e = cc in rw q t

  -- a reader whose granted rows are typed
  abbrev Right : Reader P → Type 0
  Right read = (n : ℕ) (c : Context) (d : Done) → read n c ≡ Ok d → Typed P c n d.kind d.after

  located : (read : Reader P) → Right read → (n l : ℕ) (p : Location) (c : Context) (d : Done) → locating P read n l p c ≡ Ok d
      → (e : Done) × Typed P (placed c l p) (n + 1) e.kind e.after × Settled l e.kind e.after × (◌≡◌ {A = Answer} (Ok (done_with e.kind (left e.after l))) (Ok d))
  located read right n l p c d h =
      let s = onward-ok (read (n + 1) (placed c l p)) (settled P n l) h in
      let e = s.0 in
      let t = test-ok (not (is_in e.after.progress.unwritten l) && not (lies_within e.kind l 1)) reason.ChildLeft n _ s.2 in
      let u = and-true (not (is_in e.after.progress.unwritten l)) (not (lies_within e.kind l 1)) t.0 in
      (e, right (n + 1) (placed c l p) e s.1, record { written = not-true _ u.0; elsewhere = not-true _ u.1 }, t.1)

  bound : (read : Reader P) → Right read → (n x t l m : ℕ) (c : Context) (d : Done) → slice_get P.rows n ≡ Some (row.Let x t l m) → Asked P c n (row.Let x t l m)
      → binding P read n x t l m c ≡ Ok d → Typed P c n d.kind d.after
  bound read right n x t l m c d q a h =
      let s = onward-ok (read (n + 1) c) _ h in
      let e = s.0 in
      let u = test-ok (same_kind e.kind (kind_of t l)) reason.Kind n _ s.2 in
      let v = test-ok (lies_at e.kind l) reason.Unwritten n _ u.1 in
      let w = onward-ok (further P read n m (with_variable e.after x (Some e.kind))) _ v.1 in
      let y = cond-ok (ltb n m) (read m (with_variable e.after x (Some e.kind))) reason.RowOrder n w.1 in
      let k = kind_at e.kind t l u.0 v.0 in
      typed-as d w.2
      (bind q a (subst (λ j. Typed P c (n + 1) j e.after) k (right (n + 1) c e s.1)) (ltb-true n m y.0)
      (subst (λ j. Typed P (with_variable e.after x (Some j)) m w.0.kind w.0.after) k (right m (with_variable e.after x (Some e.kind)) w.0 y.1)))

  tested : (read : Reader P) → Right read → (n x y m : ℕ) (c : Context) (d : Done) → slice_get P.rows n ≡ Some (row.Test x y m) → Asked P c n (row.Test x y m)
      → testing P read n m c ≡ Ok d → Typed P c n d.kind d.after
  tested read right n x y m c d q a h =
      let s = onward-ok (read (n + 1) c) _ h in
      let e = s.0 in
      let t : Typed P c (n + 1) e.kind e.after = right (n + 1) c e s.1 in
      let w = onward-ok (further P read n m (with_progress e.after c.progress)) _ s.2 in
      let f = w.0 in
      let z = cond-ok (ltb n m) (read m (with_progress e.after c.progress)) reason.RowOrder n w.1 in
      let u : Typed P c m f.kind f.after = subst (λ b. Typed P b m f.kind f.after) (restored c e.after (kept t)) (right m (with_progress e.after c.progress) f z.1) in
      let v = test-ok (alike e.kind e.after.progress f.kind f.after.progress) reason.ArmsDiffer n _ w.2 in
      let g = alike-done c e f (kept t) (kept u) v.0 in
      typed-as d v.1 (test q a (subst (λ (b : Done). Typed P c (n + 1) b.kind b.after) (sym g) t) (ltb-true n m z.0) u)

  -- Branches.
  branched : (read : Reader P) → Right read → (n : ℕ) (r : Option ℕ) (c : Context) (form x l m : ℕ) (a : Arm) → slice_get P.rows n ≡ Some (row.Branch form x l m)
      → branching P read n r c form x l m ≡ Ok a → Branch P c r n a.done.kind a.done.after a.next
  branched read right n r c form x l m a q h =
      let s = onward-ok (asked P c n (row.Branch form x l m)) _ h in
      let f = either-ok (slice_get P.forms form) reason.Kind n _ s.2 in
      let t = onward-ok (read (n + 1) (parted c r f.0 x l)) _ f.2 in
      let d = t.0 in
      let u = test-ok (not (lies_within d.kind l f.0.fields.subtrees)) reason.ChildLeft n _ t.2 in
      same f.0 d u.1 (branch q (asked-ok P c n (row.Branch form x l m) s.1) f.1 (right (n + 1) (parted c r f.0 x l) d t.1) (not-true _ u.0))
    where
      same : (f : Constructor) (d : Done) → ◌≡◌ {A = Result Arm Fault} (Ok (record { done = done_with d.kind (unparted d.after r f x l); next = m })) (Ok a)
          → Branch P c r n d.kind (unparted d.after r f x l) m → Branch P c r n a.done.kind a.done.after a.next
      same f d e t = let q : a ≡ record { done = done_with d.kind (unparted d.after r f x l); next = m } = cc in rw q t

  branch-right : (read : Reader P) → Right read → (n : ℕ) (r : Option ℕ) (c : Context) (a : Arm) (o : Option Row) → slice_get P.rows n ≡ o
      → branch_at P read n r c o ≡ Ok a → Branch P c r n a.done.kind a.done.after a.next
  branch-right read right n r c a None q h = absurd (err-ok h)
  branch-right read right n r c a (Some (row.Variable x)) q h = absurd (err-ok h)
  branch-right read right n r c a (Some (row.Number value)) q h = absurd (err-ok h)
  branch-right read right n r c a (Some (row.Sum x y)) q h = absurd (err-ok h)
  branch-right read right n r c a (Some (row.Difference x y)) q h = absurd (err-ok h)
  branch-right read right n r c a (Some (row.Region s room)) q h = absurd (err-ok h)
  branch-right read right n r c a (Some (row.Start l s)) q h = absurd (err-ok h)
  branch-right read right n r c a (Some (row.Past l m k)) q h = absurd (err-ok h)
  branch-right read right n r c a (Some (row.After l m t)) q h = absurd (err-ok h)
  branch-right read right n r c a (Some (row.Construct form l v0 v1 v2 v3 v4 v5 v6 v7)) q h = absurd (err-ok h)
  branch-right read right n r c a (Some (row.Let x t l body)) q h = absurd (err-ok h)
  branch-right read right n r c a (Some (row.Test x y other)) q h = absurd (err-ok h)
  branch-right read right n r c a (Some (row.Call g l v0 v1 v2 v3)) q h = absurd (err-ok h)
  branch-right read right n r c a (Some (row.Case x)) q h = absurd (err-ok h)
  branch-right read right n r c a (Some (row.Branch form x l m)) q h = branched read right n r c form x l m a q h

  -- The later branches, all of which end as the first did.
  abbrev RightFrom : Context → Option ℕ → Done → Follower P → Type 0
  RightFrom c r first follow = (b : ℕ) (e : Context) (d : Done) → Kept c e → follow b e first ≡ Ok d → Arms P c r b first.kind first.after × (d ≡ first)

  abbrev RightFollow : (ℕ → Context → Option ℕ → Follower P) → Type 0
  RightFollow follow = (n : ℕ) (c : Context) (r : Option ℕ) (first : Done) → Kept c first.after → RightFrom c r first (follow n c r)

  followed : (follow : Follower P) (c : Context) (r : Option ℕ) (b next : ℕ) (first d : Done) → RightFrom c r first follow
      → Branch P c r b first.kind first.after next → following P follow b next first first ≡ Ok d → Arms P c r b first.kind first.after × (d ≡ first)
  followed follow c r b next first d right t h = go (eqb next 0) refl h
    where
      go : (z : Bool) → eqb next 0 ≡ z → cond z (Ok first) (cond (ltb b next) (follow next first.after first) (refused reason.RowOrder b)) ≡ Ok d → Arms P c r b first.kind first.after × (d ≡ first)
      go true e g = (last (subst (λ m. Branch P c r b first.kind first.after m) (eqb-true next 0 e) t), cc)
      go false e g =
          let p = cond-ok (ltb b next) (follow next first.after first) reason.RowOrder b g in
          let q = right next first.after d (kept-branch t) p.1 in
          (more t (ltb-true b next p.0) q.0, q.1)

  follow-step : (read : Reader P) → Right read → (follow : Follower P) (n : ℕ) (c : Context) (r : Option ℕ) (first : Done) → Kept c first.after → RightFrom c r first follow
      → (b : ℕ) (e : Context) (d : Done) → Kept c e
      → onward (branch_at P read b r (with_progress e c.progress) (slice_get P.rows b)) (λ a.
      onward (asking (alike first.kind first.after.progress a.done.kind a.done.after.progress) reason.ArmsDiffer n) (λ _.
      following P follow b a.next first a.done)) ≡ Ok d
      → Arms P c r b first.kind first.after × (d ≡ first)
  follow-step read right follow n c r first k rest b e d j h =
      let s = onward-ok (branch_at P read b r (with_progress e c.progress) (slice_get P.rows b)) _ h in
      let a = s.0 in
      let t : Branch P c r b a.done.kind a.done.after a.next = subst (λ x. Branch P x r b a.done.kind a.done.after a.next) (restored c e j) (branch-right read right b r (with_progress e c.progress) a (slice_get P.rows b) refl s.1) in
      let v = test-ok (alike first.kind first.after.progress a.done.kind a.done.after.progress) reason.ArmsDiffer n _ s.2 in
      let g = alike-done c first a.done k (kept-branch t) v.0 in
      followed follow c r b a.next first d rest
      (subst (λ (x : Done). Branch P c r b x.kind x.after a.next) g t)
      (subst (λ (x : Done). following P follow b a.next first x ≡ Ok d) g v.1)

  chosen : (read : Reader P) → Right read → (follow : ℕ → Context → Option ℕ → Follower P) → RightFollow follow → (n x : ℕ) (c : Context) (d : Done)
      → slice_get P.rows n ≡ Some (row.Case x) → Asked P c n (row.Case x) → choosing P read (follow n) n (home_of P c (at c.variables x)) c ≡ Ok d → Typed P c n d.kind d.after
  chosen read right follow later n x c d q a h =
      let o = apart P n (at c.variables x) a.kind in
      let l = o.1 in
      let g : choosing P read (follow n) n (region_of c l) c ≡ Ok d = subst (λ y. choosing P read (follow n) n (home_of P c y) c ≡ Ok d) o.2 h in
      let s = onward-ok (branch_at P read (n + 1) (region_of c l) c (slice_get P.rows (n + 1))) _ g in
      let m = s.0 in
      let t = branch-right read right (n + 1) (region_of c l) c m (slice_get P.rows (n + 1)) refl s.1 in
      let f = followed (follow n c (region_of c l)) c (region_of c l) (n + 1) m.next m.done d (later n c (region_of c l) m.done (kept-branch t)) t s.2 in
      case q a o.2 (subst (λ (y : Done). Arms P c (region_of c l) (n + 1) y.kind y.after) (sym f.1) f.0)

  -- The other rows.
  row-right : (read : Reader P) → Right read → (follow : ℕ → Context → Option ℕ → Follower P) → RightFollow follow → (n : ℕ) (c : Context) (d : Done) (q : Row)
      → slice_get P.rows n ≡ Some q → Asked P c n q → row_with P read follow n c q ≡ Ok d → Typed P c n d.kind d.after
  row-right read right follow later n c d (row.Variable x) e a h = let s = either-ok (at c.variables x) reason.Scope n _ h in typed-as d s.2 (variable e a s.1)
  row-right read right follow later n c d (row.Number value) e a h = typed-as d h (number e a)
  row-right read right follow later n c d (row.Sum x y) e a h = typed-as d h (sum e a)
  row-right read right follow later n c d (row.Difference x y) e a h = typed-as d h (difference e a)
  row-right read right follow later n c d (row.Region r room) e a h =
      let s = onward-ok (read (n + 1) (opened c r)) _ h in
      typed-as d s.2 (region e a (right (n + 1) (opened c r) s.0 s.1))
  row-right read right follow later n c d (row.Start l r) e a h =
      let s = located read right n l (record { region = Some r; rule = rule.Start }) c d h in typed-as d s.3 (start e a s.1 s.2)
  row-right read right follow later n c d (row.Past l m k) e a h =
      let s = located read right n l (record { region = region_of c m; rule = rule.Past m k }) c d h in typed-as d s.3 (past e a s.1 s.2)
  row-right read right follow later n c d (row.After l m t) e a h =
      let s = located read right n l (record { region = region_of c m; rule = rule.After m }) c d h in typed-as d s.3 (after e a s.1 s.2)
  row-right read right follow later n c d (row.Construct form l v0 v1 v2 v3 v4 v5 v6 v7) e a h =
      let s = either-ok (slice_get P.forms form) reason.Kind n _ h in typed-as d s.2 (construct e a s.1)
  row-right read right follow later n c d (row.Let x t l m) e a h = bound read right n x t l m c d e a h
  row-right read right follow later n c d (row.Test x y m) e a h = tested read right n x y m c d e a h
  row-right read right follow later n c d (row.Call g l v0 v1 v2 v3) e a h =
      let s = either-ok (slice_get P.functions g) reason.Kind n _ h in typed-as d s.2 (call e a s.1)
  row-right read right follow later n c d (row.Case x) e a h = chosen read right follow later n x c d e a h
  row-right read right follow later n c d (row.Branch form x l m) e a h = absurd (err-ok h)

  term-step : (read : Reader P) → Right read → (follow : ℕ → Context → Option ℕ → Follower P) → RightFollow follow → (n : ℕ) (c : Context) (d : Done) (o : Option Row)
      → slice_get P.rows n ≡ o → either o (refused reason.RowOrder n) (row_of P read follow n c) ≡ Ok d → Typed P c n d.kind d.after
  term-step read right follow later n c d None e h = absurd (err-ok h)
  term-step read right follow later n c d (Some q) e h =
      let s = onward-ok (asked P c n q) _ h in
      row-right read right follow later n c d q e (asked-ok P c n q s.1) s.2

  granted : (fuel : ℕ) → Right (term_of P fuel) × RightFollow (follow_of P fuel)
  granted zero = ((λ n c d h. absurd (err-ok h)), (λ n c r first k b e d j h. absurd (err-ok h)))
  granted (suc fuel) =
      let ih = granted fuel in (
        (λ n c d h. term-step (term_of P fuel) ih.0 (follow_of P fuel) ih.1 n c d (slice_get P.rows n) refl h),
        (λ n c r first k b e d j h. follow-step (term_of P fuel) ih.0 (follow_of P fuel n c r) n c r first k (ih.1 n c r first k) b e d j h),
      )

  -- What the check grants is typed.
  pub term-typed : (fuel n : ℕ) (c : Context) (d : Done) → term_of P fuel n c ≡ Ok d → Typed P c n d.kind d.after
  term-typed fuel = (granted fuel).0

  pub branch-typed : (fuel n : ℕ) (r : Option ℕ) (c : Context) (a : Arm) → branch_at P (term_of P fuel) n r c (slice_get P.rows n) ≡ Ok a → Branch P c r n a.done.kind a.done.after a.next
  branch-typed fuel n r c a h = branch-right (term_of P fuel) (granted fuel).0 n r c a (slice_get P.rows n) refl h

  -- What is typed is granted, by every bound on the depth that leaves no row out.
  abbrev Full : Context → ℕ → Kind → Context → Type 0
  Full c n k d = (fuel : ℕ) → length P.rows ≤ n + fuel → term_of P fuel n c ≡ Ok (done_with k d)

  abbrev FullBranch : Context → Option ℕ → ℕ → Kind → Context → ℕ → Type 0
  FullBranch c r n k d m = (fuel : ℕ) → length P.rows ≤ n + 1 + fuel → branch_at P (term_of P fuel) n r c (slice_get P.rows n) ≡ Ok (record { done = done_with k d; next = m })

  -- the branches from row b on: the first, and those behind it
  pub record FullArms (c : Context) (r : Option ℕ) (b : ℕ) (k : Kind) (d : Context) : Type 0 where
    pub next : ℕ
    pub within : b < length P.rows
    pub here : FullBranch c r b k d next
    pub behind : (fuel n : ℕ) → length P.rows ≤ b + 1 + fuel → following P (follow_of P fuel n c r) b next (done_with k d) (done_with k d) ≡ Ok (done_with k d)

  step_in : {n : ℕ} {c : Context} {q : Row} {d : Done} → slice_get P.rows n ≡ Some q → Asked P c n q
      → ((fuel : ℕ) → length P.rows ≤ n + 1 + fuel → row_with P (term_of P fuel) (follow_of P fuel) n c q ≡ Ok d) → (fuel : ℕ) → length P.rows ≤ n + fuel → term_of P fuel n c ≡ Ok d
  step_in {n} {c} {q} e a h zero le = absurd (let w = slice_get_within P.rows n _ e in omega arith)
  step_in {n} {c} {q} e a h (suc fuel) le = rw e (rw (ok-asked P c n q a) (h fuel (omega arith)))

  full-located : (n l : ℕ) (p : Location) (c d : Context) (k : Kind) → Full (placed c l p) (n + 1) k d → Settled l k d
      → (fuel : ℕ) → length P.rows ≤ n + 1 + fuel → locating P (term_of P fuel) n l p c ≡ Ok (done_with k (left d l))
  full-located n l p c d k t s fuel le = rw (t fuel le, s.written, s.elsewhere)

  full-bound : (n x t l m : ℕ) (c d e : Context) (k : Kind) → Full c (n + 1) (kind_of t l) d → n < m → Full (with_variable d x (Some (kind_of t l))) m k e
      → (fuel : ℕ) → length P.rows ≤ n + 1 + fuel → binding P (term_of P fuel) n x t l m c ≡ Ok (done_with k (with_variable e x None))
  full-bound n x t l m c d e k f lt g fuel le =
      let p = at-kind t l in
      rw (f fuel le) (rw p.0 (rw p.1 (rw (lt-ltb n m lt) (rw (g fuel (omega arith))))))

  full-tested : (n m : ℕ) (c d : Context) (k : Kind) → Kept c d → Full c (n + 1) k d → n < m → Full c m k d
      → (fuel : ℕ) → length P.rows ≤ n + 1 + fuel → testing P (term_of P fuel) n m c ≡ Ok (done_with k d)
  full-tested n m c d k j f lt g fuel le =
      rw (f fuel le) (rw (lt-ltb n m lt) (rw (restored c d j) (rw (g fuel (omega arith)) (rw (alike_self k d.progress)))))

  full-branch : (n form x l m : ℕ) (r : Option ℕ) (c d : Context) (k : Kind) (f : Constructor) → slice_get P.rows n ≡ Some (row.Branch form x l m) → Asked P c n (row.Branch form x l m) → slice_get P.forms form ≡ Some f
      → Full (parted c r f x l) (n + 1) k d → lies_within k l f.fields.subtrees ≡ false → FullBranch c r n k (unparted d r f x l) m
  full-branch n form x l m r c d k f e a h t s fuel le =
      rw e (rw (ok-asked P c n (row.Branch form x l m) a) (rw h (rw (t fuel le) (rw s))))

  full-last : {r : Option ℕ} {b : ℕ} {c d : Context} {k : Kind} → b < length P.rows → FullBranch c r b k d 0 → FullArms c r b k d
  full-last w f = record { next = 0; within = w; here = f; behind = λ fuel n le. refl }

  full-follow : {c d : Context} {r : Option ℕ} {b : ℕ} {k : Kind} → Kept c d → FullArms c r b k d
      → (fuel n : ℕ) → length P.rows ≤ b + fuel → follow_of P fuel n c r b d (done_with k d) ≡ Ok (done_with k d)
  full-follow j t zero n le = absurd (let w = t.within in omega arith)
  full-follow {c} {d} {r} {b} {k} j t (suc fuel) n le =
      rw (restored c d j) (rw (t.here fuel (omega arith)) (rw (alike_self k d.progress) (t.behind fuel n (omega arith))))

  full-more : {r : Option ℕ} {b m : ℕ} {c d : Context} {k : Kind} → Kept c d → b < length P.rows → FullBranch c r b k d m → b < m → FullArms c r m k d → FullArms c r b k d
  full-more {r} {b} {m} {c} {d} {k} j w f lt t = record { next = m; within = w; here = f; behind = behind }
    where
      behind : (fuel n : ℕ) → length P.rows ≤ b + 1 + fuel → following P (follow_of P fuel n c r) b m (done_with k d) (done_with k d) ≡ Ok (done_with k d)
      behind fuel n le =
          let z : eqb m 0 ≡ false = grind (arith, nat_tests) in
          rw z (rw (lt-ltb b m lt) (full-follow j t fuel n (omega arith)))

  full-chosen : (c d : Context) (n x t l : ℕ) (k : Kind) → at c.variables x ≡ Some (kind.Tree t l) → FullArms c (region_of c l) (n + 1) k d
      → (fuel : ℕ) → length P.rows ≤ n + 1 + fuel → choosing P (term_of P fuel) (follow_of P fuel n) n (home_of P c (at c.variables x)) c ≡ Ok (done_with k d)
  full-chosen c d n x t l k e f fuel le =
      rw e (rw (f.here fuel (omega arith)) (f.behind fuel n (omega arith)))

  branch-within : {c d : Context} {r : Option ℕ} {n m : ℕ} {k : Kind} → Branch P c r n k d m → n < length P.rows
  branch-within {n = n} (branch e a h t s) = slice_get_within P.rows n _ e

  mutual
    pub typed-term : {c d : Context} {n : ℕ} {k : Kind} → Typed P c n k d → (fuel : ℕ) → length P.rows ≤ n + fuel → term_of P fuel n c ≡ Ok (done_with k d)
    typed-term (variable e a h) = step_in e a (λ fuel le. rw h)
    typed-term (number e a) = step_in e a (λ fuel le. refl)
    typed-term (sum e a) = step_in e a (λ fuel le. refl)
    typed-term (difference e a) = step_in e a (λ fuel le. refl)
    typed-term (region e a t) = let f = typed-term t in step_in e a (λ fuel le. rw (f fuel le))
    typed-term {c} {n = n} {k = k} (start {d = d} {l = l} {r = r} e a t s) = step_in e a (full-located n l (record { region = Some r; rule = rule.Start }) c d k (typed-term t) s)
    typed-term {c} {n = n} {k = k} (past {d = d} {l = l} {m = m} {j = j} e a t s) = step_in e a (full-located n l (record { region = region_of c m; rule = rule.Past m j }) c d k (typed-term t) s)
    typed-term {c} {n = n} {k = k} (after {d = d} {l = l} {m = m} e a t s) = step_in e a (full-located n l (record { region = region_of c m; rule = rule.After m }) c d k (typed-term t) s)
    typed-term (construct e a h) = step_in e a (λ fuel le. rw h)
    typed-term {c} {n = n} {k = k} (bind {d = d} {e = e} {x = x} {t = t} {l = l} {m = m} q a u lt v) = step_in q a (full-bound n x t l m c d e k (typed-term u) lt (typed-term v))
    typed-term {c} {d} {n} {k} (test {m = m} e a t lt u) = step_in e a (full-tested n m c d k (kept t) (typed-term t) lt (typed-term u))
    typed-term (call e a h) = step_in e a (λ fuel le. rw h)
    typed-term {c} {d} {n} {k} (case {x = x} {t = t} {l = l} e a h u) = step_in e a (full-chosen c d n x t l k h (typed-arms u))

    typed-arms : {c d : Context} {r : Option ℕ} {n : ℕ} {k : Kind} → Arms P c r n k d → FullArms c r n k d
    typed-arms (last b) = full-last (branch-within b) (typed-branch b)
    typed-arms (more b lt t) = full-more (kept-branch b) (branch-within b) (typed-branch b) lt (typed-arms t)

    pub typed-branch : {c d : Context} {r : Option ℕ} {n m : ℕ} {k : Kind} → Branch P c r n k d m → (fuel : ℕ) → length P.rows ≤ n + 1 + fuel → branch_at P (term_of P fuel) n r c (slice_get P.rows n) ≡ Ok (record { done = done_with k d; next = m })
    typed-branch {c} {r = r} {n = n} {m = m} {k = k} (branch {d = d} {form = form} {x = x} {l = l} {f = f} e a h t s) = full-branch n form x l m r c d k f e a h (typed-term t) s

  -- Functions, one by one and all.
  pub body_typed : (f : Function) → body_of P f ≡ Ok tt → Body P f
  body_typed f h =
      let s = onward-ok (term_of P (length P.rows) f.first (begun f)) _ h in
      let d = s.0 in
      let u = test-ok (same_kind d.kind (kind_of f.result 0)) reason.Kind f.first _ s.2 in
      let v = test-ok (ended P f d) reason.Unwritten f.first _ u.1 in
      let w = body-kind d.kind f.result (is_at 0 (frontier_in d.after.progress (Some 0))) u.0 v.0 in
      record {
        end = d.after;
        typed = subst (λ k. Typed P (begun f) f.first k d.after) w.0 (term-typed (length P.rows) f.first (begun f) d s.1);
        full = λ no. frontier-at (frontier_in d.after.progress (Some 0)) (w.1 no);
      }

  pub typed-body : (f : Function) → Body P f → body_of P f ≡ Ok tt
  typed-body f b =
      let t = typed-term b.typed (length P.rows) (omega arith) in
      rw t (rw (at-kind f.result 0).0 (rw (body_ended f.result (frontier_in b.end.progress (Some 0)) b.full)))

  bodies-typed : (fs : List Function) → bodies_of P fs ≡ Ok tt → (i : ℕ) (f : Function) → slice_get fs i ≡ Some f → Body P f
  bodies-typed [] h i f e = absurd (some-none (sym e))
  bodies-typed (g ∷ fs) h zero f e =
      let s = onward-ok (body_of P g) (λ _. bodies_of P fs) h in
      let q : g ≡ f = cc in
      subst (λ k. Body P k) q (body_typed g s.1)
  bodies-typed (g ∷ fs) h (suc i) f e = let s = onward-ok (body_of P g) (λ _. bodies_of P fs) h in bodies-typed fs s.2 i f e

  typed-bodies : (fs : List Function) → ((i : ℕ) (f : Function) → slice_get fs i ≡ Some f → Body P f) → bodies_of P fs ≡ Ok tt
  typed-bodies [] h = refl
  typed-bodies (g ∷ fs) h = rw (typed-body g (h 0 g refl)) (typed-bodies fs (λ i f e. h (suc i) f e))

  -- The verdict grants a program just where it is well typed.
  pub verdict-typed : verdict_of P ≡ Ok tt → WellTyped P
  verdict-typed h = bodies-typed P.functions h

  pub typed-verdict : WellTyped P → verdict_of P ≡ Ok tt
  typed-verdict w = typed-bodies P.functions w
