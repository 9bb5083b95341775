-- A buffer that is being filled from its front.
use Rattle.std.specs.Prelude.{◌≡◌, ℕ, List, ◌++◌, length, drop}

-- `word` is written over the front of what `old` held, up to `at`
pub record Front {A : Type 0} (word old : List A) (at : ℕ) (out : List A) : Type 0 where
  pub long : length word ≡ at
  pub holds : out ≡ word ++ drop at old
