-- The numbers that broken limits name.
use Rattle.std.proofs.Common.{◌≡◌, ℕ, ◌+◌, ◌≤◌, Bool, true, false, cond, ◌&&◌, eqb, leb, List, [], ◌∷◌, length, Some, None, Option, subst, arith}
use Rattle.packed.specs.declared.constructor.Fields.{Fields}
use Rattle.packed.specs.declared.constructor.Limit.{Limit}
use Rattle.packed.specs.declared.constructor.Limit.TheVariants as limit
use Rattle.packed.specs.Forms.{either, fair, total, size_limit, fields_limit, limit_of}
use Rattle.table.specs.Table.{Small}

-- a refusal that a test gave, or one behind it
small-cond : (v : Bool) (o : Option Limit) (b l : Limit) → cond v o (Some b) ≡ Some l → Small b → (o ≡ Some l → Small l) → Small l
small-cond true o b l e s k = k e
small-cond false o b l e s k = subst Small (let same : b ≡ l = cc in same) s

small_size : (t : ℕ) (ns : List ℕ) (l : Limit) → t + length ns ≤ 65536 → size_limit t ns ≡ Some l → Small l
small_size t [] l h e = absurd (grind arith)
small_size t (n ∷ ns) l h e = small-cond (leb 1 n && leb n 16) (size_limit (t + 1) ns) (limit.TypeSize t) l e (omega arith) (λ f. small_size (t + 1) ns l (omega arith) f)

small-fields : (types i : ℕ) (fs : List Fields) (l : Limit) → i + length fs ≤ 65536 → fields_limit types i fs ≡ Some l → Small l
small-fields types i [] l h e = absurd (grind arith)
small-fields types i (f ∷ fs) l h e = small-cond (fair types f) (fields_limit types (i + 1) fs) (limit.Constructor i) l e (omega arith) (λ g. small-fields types (i + 1) fs l (omega arith) g)

small-either : (o p : Option Limit) (l : Limit) → either o p Some ≡ Some l → (o ≡ Some l → Small l) → (p ≡ Some l → Small l) → Small l
small-either None p l e a b = b e
small-either (Some x) p l e a b = a e

pub limit-small : (sizes : List ℕ) (fs : List Fields) (l : Limit) → length sizes ≤ 65536 → length fs ≤ 65536 → limit_of sizes fs ≡ Some l → Small l
limit-small sizes fs l a b e =
    let n = length sizes in
    let inner = cond (eqb (total sizes) (length fs) && leb (length fs) 64) (fields_limit n 0 fs) (Some limit.ConstructorCount) in
    small-cond (leb 1 n && leb n 16) (either (size_limit 0 sizes) inner Some) limit.TypeCount l e tt
    (λ f. small-either (size_limit 0 sizes) inner l f (small_size 0 sizes l (omega arith))
    (λ g. small-cond (eqb (total sizes) (length fs) && leb (length fs) 64) (fields_limit n 0 fs) limit.ConstructorCount l g tt (small-fields n 0 fs l (omega arith))))
