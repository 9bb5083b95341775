-- What the constructors of a list of deleted entries hold.
use Rattle.std.specs.Prelude.{ℕ, List, [], ◌∷◌}
use Rattle.packed.specs.declared.constructor.Fields.{Fields}

abbrev pub fields : ℕ → ℕ → List ℕ → Fields
fields integers subtrees types = record { integers = integers; subtrees = subtrees; types = types }

abbrev pub no_types : List ℕ
no_types = 255 ∷ 255 ∷ 255 ∷ 255 ∷ []

-- Type 0, a list of folders: its end, or a folder with its id, its entries and the next folder.
-- Type 1, a list of entries: its end, or an entry with its id, its age and the next entry.
-- Type 2, an age: the days since the deletion and the days left, or the days since nothing is left.
abbrev pub end_fields : Fields
end_fields = fields 0 0 no_types

abbrev pub folder_fields : Fields
folder_fields = fields 1 2 (1 ∷ 0 ∷ 255 ∷ 255 ∷ [])

abbrev pub entry_fields : Fields
entry_fields = fields 1 2 (2 ∷ 1 ∷ 255 ∷ 255 ∷ [])

abbrev pub kept_fields : Fields
kept_fields = fields 2 0 no_types

abbrev pub gone_fields : Fields
gone_fields = fields 1 0 no_types
