-- The constructors of a list of deleted entries.
use Rattle.std.specs.Prelude.{ℕ, List, [], ◌∷◌}
use Rattle.packed.specs.declared.constructor.Constructor.{Constructor}
use Rattle.packed.specs.declared.constructor.Fields.{Fields}
use Rattle.reporting.specs.Listed.{end_fields, folder_fields, entry_fields, kept_fields, gone_fields}

abbrev pub form : ℕ → Fields → Constructor
form t fields = record { of = t; fields = fields }

abbrev pub list_forms : List Constructor
list_forms =
    form 0 end_fields
    ∷ form 0 folder_fields
    ∷ form 1 end_fields
    ∷ form 1 entry_fields
    ∷ form 2 kept_fields
    ∷ form 2 gone_fields
    ∷ []
