-- A row leaves in scope what was in scope before it: names that it binds are new, and it takes them out again.
use Rattle.std.proofs.Common.{◌≡◌, ℕ, zero, suc, ◌+◌, ◌<◌, Bool, true, false, cond, ◌&&◌, eqb, List, [], ◌∷◌, set, Some, None, Option, sym, refl, ap, ◌∙◌, arith}
use Rattle.std.specs.List.{slice_get}
use Rattle.std.proofs.lemmas.List.{set-set, set_comm}
use Rattle.packed.specs.declared.constructor.Constructor.{Constructor}
use Rattle.table.specs.declared.row.Row.TheVariants as row
use Rattle.checker.specs.declared.kind.Kind.{Kind}
use Rattle.checker.specs.declared.context.Context.{Context}
use Rattle.checker.specs.declared.context.Location.{Location}
use Rattle.checker.specs.Contexts.{fresh, all_fresh, fill, clear, parts, parted, unparted, placed, left, written, with_variable}
use Rattle.checker.specs.Conditions.{Program, names}
use Rattle.checker.specs.Rules.{Typed, Arms, Branch, variable, number, sum, difference, region, start, past, after, construct, bind, test, call, case, last, more, branch}
use Rattle.checker.proofs.Inversions.{true-false, and-true}

-- a name that stands for nothing, cleared once more
pub set-fresh : {X : Type 0} (xs : List (Option X)) (n : ℕ) → fresh xs n ≡ true → set xs n None ≡ xs
set-fresh [] n h = absurd (true-false (sym h))
set-fresh (None ∷ xs) zero h = refl
set-fresh (Some y ∷ xs) zero h = absurd (true-false (sym h))
set-fresh (x ∷ xs) (suc n) h = ap (λ ys. x ∷ ys) (set-fresh xs n h)

-- a name that stands for nothing, bound and taken out again
pub rebound : {X : Type 0} (xs : List (Option X)) (n : ℕ) (v : X) → fresh xs n ≡ true → set (set xs n (Some v)) n None ≡ xs
rebound xs n v h = set-set xs n (Some v) None ∙ set-fresh xs n h

-- a change at a name before those that are filled
fill-set : {X : Type 0} (xs : List (Option X)) (x : ℕ) (v : ℕ → X) (i n j : ℕ) (w : Option X) → j < x + i → set (fill xs x v i n) j w ≡ fill (set xs j w) x v i n
fill-set xs x v i zero j w h = refl
fill-set xs x v i (suc n) j w h =
    fill-set (set xs (x + i) (Some (v i))) x v (i + 1) n j w (omega arith)
    ∙ ap (λ ys. fill ys x v (i + 1) n) (set_comm xs (x + i) j (Some (v i)) w (omega arith))

pub clear-fill : {X : Type 0} (xs : List (Option X)) (x : ℕ) (v : ℕ → X) (i n : ℕ) → all_fresh xs x i n ≡ true → clear (fill xs x v i n) x i n ≡ xs
clear-fill xs x v i zero h = refl
clear-fill xs x v i (suc n) h =
    let p = and-true (fresh xs (x + i)) (all_fresh xs x (i + 1) n) h in
    ap (λ ys. clear ys x (i + 1) n) (fill-set (set xs (x + i) (Some (v i))) x v (i + 1) n (x + i) None (omega arith))
    ∙ ap (λ ys. clear (fill ys x v (i + 1) n) x (i + 1) n) (rebound xs (x + i) (v i) p.0)
    ∙ clear-fill xs x v (i + 1) n p.1

-- what two contexts have in scope is the same
abbrev Kept : Context → Context → Type 0
Kept c d = (d.variables ≡ c.variables) × (d.locations ≡ c.locations)

-- One lemma for each way in which a row changes what is in scope.
kept-left : (c d : Context) (l : ℕ) (p : Location) → fresh c.locations l ≡ true → Kept (placed c l p) d → Kept c (left d l)
kept-left c d l p h k = (k.0, ap (λ ls. set ls l None) k.1 ∙ rebound c.locations l p h)

kept-bound : (c d e : Context) (x : ℕ) (k : Kind) → fresh c.variables x ≡ true → Kept c d → Kept (with_variable d x (Some k)) e → Kept c (with_variable e x None)
kept-bound c d e x k h p q = (ap (λ xs. set xs x None) (q.0 ∙ ap (λ xs. set xs x (Some k)) p.0) ∙ rebound c.variables x k h, q.1 ∙ p.1)

kept-called : (c : Context) (b : Bool) (l : ℕ) → Kept c (cond b c (written c l))
kept-called c true l = (refl, refl)
kept-called c false l = (refl, refl)

kept-parted : (c d : Context) (r : Option ℕ) (f : Constructor) (x l : ℕ) → (all_fresh c.variables x 0 (parts f) && all_fresh c.locations l 0 f.fields.subtrees) ≡ true → Kept (parted c r f x l) d → Kept c (unparted d r f x l)
kept-parted c d r f x l h k =
    let p = and-true (all_fresh c.variables x 0 (parts f)) (all_fresh c.locations l 0 f.fields.subtrees) h in (
      ap (λ xs. clear xs x 0 (parts f)) k.0 ∙ clear-fill c.variables x _ 0 (parts f) p.0,
      ap (λ ls. clear ls l 0 f.fields.subtrees) k.1 ∙ clear-fill c.locations l _ 0 f.fields.subtrees p.1,
    )

branch-fresh : (P : Program) (c : Context) (n form x l m : ℕ) (f : Constructor) → slice_get P.forms form ≡ Some f → names P c (row.Branch form x l m) ≡ true → (all_fresh c.variables x 0 (parts f) && all_fresh c.locations l 0 f.fields.subtrees) ≡ true
branch-fresh P c n form x l m f e h = rw e at h

mutual
  pub kept : {P : Program} {c d : Context} {n : ℕ} {k : Kind} → Typed P c n k d → (d.variables ≡ c.variables) × (d.locations ≡ c.locations)
  kept (variable e a h) = (refl, refl)
  kept (number e a) = (refl, refl)
  kept (sum e a) = (refl, refl)
  kept (difference e a) = (refl, refl)
  kept (region e a t) = kept t
  kept {P} {c} (start {d = d} {l = l} {r = r} e a t s) = kept-left c d l _ (and-true (fresh c.locations l) _ a.scope).0 (kept t)
  kept {P} {c} (past {d = d} {l = l} e a t s) = kept-left c d l _ (and-true (fresh c.locations l) _ a.scope).0 (kept t)
  kept {P} {c} (after {d = d} {l = l} e a t s) = kept-left c d l _ (and-true (fresh c.locations l) _ a.scope).0 (kept t)
  kept (construct e a h) = (refl, refl)
  kept {P} {c} (bind {d = d} {e = e} {x = x} q a t lt u) = kept-bound c d e x _ (and-true (fresh c.variables x) _ a.scope).0 (kept t) (kept u)
  kept (test e a t lt u) = kept t
  kept {P} {c} (call {l = l} {f = f} e a h) = kept-called c (eqb f.result 254) l
  kept (case e a h t) = kept-arms t

  pub kept-arms : {P : Program} {c d : Context} {r : Option ℕ} {n : ℕ} {k : Kind} → Arms P c r n k d → (d.variables ≡ c.variables) × (d.locations ≡ c.locations)
  kept-arms (last b) = kept-branch b
  kept-arms (more b lt t) = kept-branch b

  pub kept-branch : {P : Program} {c d : Context} {r : Option ℕ} {n : ℕ} {k : Kind} {m : ℕ} → Branch P c r n k d m → (d.variables ≡ c.variables) × (d.locations ≡ c.locations)
  kept-branch {P} {c} {r = r} {n = n} {m = m} (branch {d = d} {form = form} {x = x} {l = l} {f = f} e a h t s) = kept-parted c d r f x l (branch-fresh P c n form x l m f h a.scope) (kept t)
