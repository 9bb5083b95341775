-- What the days since a deletion mean.
use Rattle.std.specs.Prelude.{ℕ, ◌-◌, Bool, true, false, cond, pos, nat_lt}
use Rattle.report.specs.declared.age.Age.{Age}
use Rattle.report.specs.declared.age.Age.TheVariants as age

-- an entry can be brought back for thirty days, and then no more
abbrev pub kept : ℕ
kept = 30

abbrev pub age_of : ℕ → Age
age_of ago = cond (nat_lt ago kept) (age.Kept (pos ago) (pos (kept - ago))) (age.Gone (pos (ago - kept)))

abbrev pub is_kept : Age → Bool
is_kept (age.Kept ago left) = true
is_kept (age.Gone since) = false
