-- What a table holds, and the table that is built in.
use Rattle.std.specs.Prelude.{ℕ, List, [], ◌∷◌, Ok, Err, Result}
use Rattle.packed.specs.declared.fault.Fault.{Fault}
use Rattle.table.specs.declared.parts.Parts.{Parts}
use Rattle.table.specs.declared.section.Layout.{Layout}
use Rattle.table.specs.declared.table.Table.{Table}

abbrev pub bytes_of : Table → List ℕ
bytes_of t = t.bytes.now

-- where the sections lie, of what was read
abbrev pub laid_out : Result Parts Fault → Result Layout Fault
laid_out (Ok p) = Ok p.layout
laid_out (Err f) = Err f

-- the edition; a type of one constructor, which holds nothing; main, which gives an integer; its row, the number 0
abbrev pub built_in : List ℕ
built_in =
    1
    ∷ 1 ∷ 0 ∷ 1
    ∷ 1 ∷ 0 ∷ 0 ∷ 0 ∷ 255 ∷ 255 ∷ 255 ∷ 255
    ∷ 1 ∷ 0 ∷ 0 ∷ 255 ∷ 255 ∷ 255 ∷ 255 ∷ 254 ∷ 0 ∷ 0
    ∷ 1 ∷ 0 ∷ 1 ∷ 0 ∷ 0 ∷ 0 ∷ 0 ∷ 0 ∷ 0 ∷ 0 ∷ 0 ∷ 0 ∷ 0 ∷ 0 ∷ 0 ∷ 0 ∷ 0 ∷ 0
    ∷ []
