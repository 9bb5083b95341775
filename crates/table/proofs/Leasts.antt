-- The least of two rows, where each may be none.
use Rattle.std.proofs.Common.{◌≡◌, ℕ, ◌≤◌, min, Bool, true, false, leb, ◌⊎◌, Some, None, Option, sym, refl, ap, ◌∙◌, inl, inr, arith, leb-false, leb-true}
use Rattle.table.specs.Order.{least}

pub least-none : (o : Option ℕ) → least o None ≡ o
least-none None = refl
least-none (Some m) = refl

pub least-assoc : (a b c : Option ℕ) → least a (least b c) ≡ least (least a b) c
least-assoc None b c = refl
least-assoc (Some l) None c = refl
least-assoc (Some l) (Some m) None = refl
least-assoc (Some l) (Some m) (Some n) = let e : min l (min m n) ≡ min (min l m) n = omega arith in ap Some e

-- the least is none only where both are
pub least-none-left : (a b : Option ℕ) → least a b ≡ None → a ≡ None
least-none-left None b e = refl
least-none-left (Some m) None e = e
least-none-left (Some m) (Some n) e = cc

pub least-none-right : (a b : Option ℕ) → least a b ≡ None → b ≡ None
least-none-right None b e = e
least-none-right (Some m) None e = refl
least-none-right (Some m) (Some n) e = cc

-- the least is one of the two
min-either : (m n : ℕ) (b : Bool) → leb m n ≡ b → (min m n ≡ m) ⊎ (min m n ≡ n)
min-either m n true e = let h = leb-true m n e in inl (omega arith)
min-either m n false e = let h = leb-false m n e in inr (omega arith)

pub least-from : (a b : Option ℕ) (p : ℕ) → least a b ≡ Some p → (a ≡ Some p) ⊎ (b ≡ Some p)
least-from None b p e = inr e
least-from (Some m) None p e = inl e
least-from (Some m) (Some n) p e = elim (min-either m n (leb m n) refl) [ inl h ↦ inl (sym (ap Some h) ∙ e) | inr h ↦ inr (sym (ap Some h) ∙ e) ]

-- a row that is at most row q
abbrev pub AtMost : Option ℕ → ℕ → Type 0
AtMost None q = ⊥
AtMost (Some p) q = p ≤ q

pub at-most-left : (a b : Option ℕ) (q : ℕ) → AtMost a q → AtMost (least a b) q
at-most-left None b q h = absurd h
at-most-left (Some m) None q h = h
at-most-left (Some m) (Some n) q h = omega arith

pub at-most-right : (a b : Option ℕ) (q : ℕ) → AtMost b q → AtMost (least a b) q
at-most-right None b q h = h
at-most-right (Some m) None q h = absurd h
at-most-right (Some m) (Some n) q h = omega arith
