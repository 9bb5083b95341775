-- Numbers as cells.
use Rattle.std.proofs.Common.{◌≡◌, ℕ, ◌*◌, ◌<◌, ◌≤◌, ◌≢◌, List, length, drop, set, Result, Some, None, Option, Ok, Err, refl, ap, ◌∙◌, arith}
use Rattle.std.specs.Option.{ok_or}
use Rattle.std.proofs.lemmas.List.{get_or-set_other, drop-set-lt, length-set}
use Rattle.std.proofs.lemmas.Bool.{lt-ltb, le-ltb}
use Rattle.packed.specs.declared.fault.Fault.{Fault}
use Rattle.stores.specs.Cells.{content, Clear, Filling, Kept}

pub content-filled : (c : ℕ) → c < 256 → content c ≡ Some c
content-filled c h = rw (lt-ltb c 256 h)

pub content-empty : (c : ℕ) → 256 ≤ c → content c ≡ None
content-empty c h = rw (le-ltb c 256 h)

-- a number that is written before all that is clear, or before the last cell
pub clear-set : (cells : List ℕ) (at b from to : ℕ) → at < from → Clear cells from to → Clear (set cells at b) from to
clear-set cells at b from to h clear p k l =
    let n : p ≢ at = λ e. omega arith in
    get_or-set_other cells at p b 0 n ∙ clear p k l

pub kept_set : (total : ℕ) (cells : List ℕ) (at b : ℕ) → at < total → Kept total cells total (set cells at b)
kept_set total cells at b h = (refl, drop-set-lt total cells at b h)

-- what filling a cell leaves, whichever way it goes
module _ (cells cells' : List ℕ) (at b : ℕ) where
  pub fill-clear : (x : Result (Unit {0}) Fault) (from to : ℕ) → Filling cells at b x cells' → at < from → Clear cells from to → Clear cells' from to
  fill-clear (Ok u) from to h l clear = rw h.1 (clear-set cells at b from to l clear)
  fill-clear (Err f) from to h l clear = rw h.2 clear

  pub fill-length : (x : Result (Unit {0}) Fault) → Filling cells at b x cells' → length cells' ≡ length cells
  fill-length (Ok u) h = ap length h.1 ∙ length-set cells at b
  fill-length (Err f) h = ap length h.2

  pub fill-kept : (x : Result (Unit {0}) Fault) (total : ℕ) → Filling cells at b x cells' → at < total → Kept total cells total cells'
  fill-kept (Ok u) total h l = rw h.1 (kept_set total cells at b l)
  fill-kept (Err f) total h l = (refl, ap (drop total) h.2)

pub kept_same : (pages pages' : ℕ) (cells cells' : List ℕ) → pages' ≡ pages → cells' ≡ cells → Kept (pages * 64) cells (pages' * 64) cells'
kept_same pages pages' cells cells' p c = (ap (λ (n : ℕ). n * 64) p, ap (drop (pages * 64)) c)

-- an option that becomes a result
pub none-from-err : {X E : Type 0} (o : Option X) (g f : E) → Err f ≡ ok_or o g → (o ≡ None) × (f ≡ g)
none-from-err None g f e = (refl, cc)
none-from-err (Some x) g f e = cc

pub some-from-ok : {X E : Type 0} (o : Option X) (g : E) (x : X) → Ok x ≡ ok_or o g → o ≡ Some x
some-from-ok None g x e = cc
some-from-ok (Some y) g x e = cc
