-- Text that is cut at a separator.
use Rattle.std.specs.Prelude.{◌≡◌, ℕ, cond, List, [], ◌∷◌, Some, None, Option, ◌==◌}
use Rattle.std.specs.Fn.{Shared, FnReturnsAt}
use Rattle.std.specs.List.{slice_split}
use denote.Ref.{Bor}
use Rattle.std.specs.Option.{option_map}

-- what stands before the first separator, and what stands behind it
abbrev pub head_of : ℕ → List ℕ → List ℕ
head_of sep [] = []
head_of sep (c ∷ cs) = cond (c == sep) [] (c ∷ head_of sep cs)

abbrev pub tail_of : ℕ → List ℕ → Option (List ℕ)
tail_of sep [] = None
tail_of sep (c ∷ cs) = cond (c == sep) (Some cs) (tail_of sep cs)

-- what stands behind a name that a line begins with
abbrev pub behind_name : List ℕ → List ℕ → Option (List ℕ)
behind_name [] line = Some line
behind_name (n ∷ ns) [] = None
behind_name (n ∷ ns) (c ∷ cs) = cond (c == n) (behind_name ns cs) None

-- the pieces between separators
abbrev pub pieces : ℕ → List ℕ → List (List ℕ)
pieces sep text = slice_split (λ c. c == sep) text

-- what each piece stands for, if every one stands for something
abbrev pub ahead : {A : Type 0} → Option A → Option (List A) → Option (List A)
ahead None rest = None
ahead (Some x) rest = option_map (λ xs. x ∷ xs) rest

abbrev pub each_of : {A : Type 0} → (List ℕ → Option A) → List (List ℕ) → Option (List A)
each_of read [] = Some []
each_of read (t ∷ ts) = ahead (read t) (each_of read ts)

-- each call of f answers what a text means
abbrev pub Reads : {F A : Type 0} → Shared F (Bor (List ℕ) × Unit {0}) (Option A) → F → (List ℕ → Option A) → Type 0
Reads {A = A} g f meant = (x : List ℕ) (r : Option A) → FnReturnsAt g f x r → r ≡ meant x
