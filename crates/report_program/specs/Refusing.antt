-- Refusals in words.
use Rattle.std.specs.Prelude.{ℕ, cond, List, codes, ◌==◌}

-- what each number of refusal says that a table, the buffer it is written into or a store can get
abbrev pub sentence_of : ℕ → List ℕ
sentence_of n =
    cond (n == 11) (codes "the bytes end before the rows do")
    (cond (n == 12) (codes "there are bytes behind the rows")
    (cond (n == 13) (codes "a section has too few or too many records")
    (cond (n == 21) (codes "a number here has no meaning")
    (cond (n == 22) (codes "the rows are out of order here")
    (cond (n == 31) (codes "a name that the row uses is not in scope, or one that it binds is")
    (cond (n == 32) (codes "a value, or the branches of a case, are not of the kind that the row asks for")
    (cond (n == 33) (codes "a location is named where nothing may be written next")
    (cond (n == 34) (codes "a tree is not written where it has to stand")
    (cond (n == 35) (codes "what follows leaves the location empty, or gives what lies there")
    (cond (n == 36) (codes "two arms do not end alike")
    (cond (n == 53) (codes "the buffer is too short")
    (cond (n == 65) (codes "the store has no room for as many cells")
    (codes "this is refused elsewhere")))))))))))))
