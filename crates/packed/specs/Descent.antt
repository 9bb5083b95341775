-- What the readers by descent answer.
use Rattle.std.specs.Prelude.{ℕ, ◌<◌, ◌≤◌, Ok, Err, Result}
use Rattle.packed.specs.declared.head.Head.{Head}

-- how a reading goes on behind an end, or the place at which it broke off
abbrev pub onward : {A : Type 0} → Result A ℕ → (A → Result (Unit {0}) ℕ) → Result (Unit {0}) ℕ
onward (Ok x) more = more x
onward (Err p) more = Err p

-- the place that an answer names
abbrev pub place_of : Result ℕ ℕ → ℕ
place_of (Ok e) = e
place_of (Err p) = p

-- an answer lies between where the reading began and its end, and a tree has at least its head
abbrev pub Beyond : Result ℕ ℕ → ℕ → ℕ → Type 0
Beyond (Ok e) at n = (at < e) × (e ≤ n)
Beyond (Err p) at n = (at ≤ p) × (p ≤ n)

-- the same of a head, and that its constructor is one of the shapes'
abbrev pub HeadWithin : Result Head ℕ → ℕ → ℕ → Type 0
HeadWithin (Ok h) at n = (at < h.end) × (h.end ≤ n) × (h.constructor.fields.subtrees ≤ 4)
HeadWithin (Err p) at n = (at ≤ p) × (p ≤ n)

-- the place that an answer about a head names
abbrev pub head_place : Result Head ℕ → ℕ
head_place (Ok h) = h.end
head_place (Err p) = p

-- how far a reading of n symbols came
abbrev pub reach : Result (Unit {0}) ℕ → ℕ → ℕ
reach (Ok u) n = n
reach (Err p) n = p
