-- What shapes hold.
use Rattle.std.specs.Prelude.{ℕ, List, take, Some, None, Ok, Err, Option, Result}
use Rattle.packed.specs.declared.constructor.Constructor.{Constructor}
use Rattle.packed.specs.declared.constructor.Limit.{Limit}
use Rattle.packed.specs.declared.shapes.Shapes.{Shapes}

-- the constructors, by number
abbrev pub forms_of : Shapes → List Constructor
forms_of s = take s.count s.constructors

-- how many constructors each type has
abbrev pub sizes_of : Shapes → List ℕ
sizes_of s = take s.types s.sizes

-- the limit for which shapes were refused
abbrev pub broken : Result Shapes Limit → Option Limit
broken (Ok s) = None
broken (Err l) = Some l
