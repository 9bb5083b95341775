-- What the program answers of a line.
use Rattle.std.specs.Prelude.{◌≡◌, List, ◌++◌, ℕ, Some, None, Ok, Err, codes, Option, Result, ◌≢◌}
use Rattle.packed.specs.declared.fault.Fault.{Fault}
use Rattle.packed.specs.Forms.{either}
use Rattle.table.specs.declared.section.Layout.{Layout}
use Rattle.table.specs.Table.{table_of}
use Rattle.words.specs.declared.refusal.Refusal.{Refusal}
use Rattle.words.specs.declared.refusal.Refusal.TheVariants as refusal
use Rattle.words.specs.Hex.{written}

-- a table is formed as it should be or has a first fault, or the line is no command
pub data Answer : Type 0 where
  Formed : Answer
  Faulty : Fault → Answer
  Bad : Answer

-- the answer that a result is, unless memory ran out
abbrev pub answer_in : Result (Unit {0}) Refusal → Option Answer
answer_in (Ok u) = Some Formed
answer_in (Err (refusal.Faulty f)) = Some (Faulty f)
answer_in (Err refusal.Bad) = Some Bad
answer_in (Err (refusal.NoMemory e)) = None

abbrev pub judgement : Result Layout Fault → Answer
judgement (Ok l) = Formed
judgement (Err f) = Faulty f

abbrev pub word_answer : List ℕ → Answer
word_answer word = either (written word) Bad (λ bytes. judgement (table_of bytes))

-- a line that begins with the command is answered by its word, and any other line is bad
abbrev pub Answers : List ℕ → Answer → Type 0
Answers line a =
    ((word : List ℕ) → line ≡ codes "check " ++ word → a ≡ word_answer word)
    × (((word : List ℕ) → line ≢ codes "check " ++ word) → a ≡ Bad)
