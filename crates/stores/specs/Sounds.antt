-- What regions mean is sound, whatever stands in their cells.
use Rattle.std.specs.Prelude.{ℕ, ◌*◌, Option}
use Rattle.std.proofs.Common.{◌≡◌, ◌+◌, ◌-◌, ◌∙◌, ap, sym, add-mul, add-one, arith}
use Rattle.cells.specs.Meaning.{Sound}
use Rattle.cells.proofs.Laying.{laid-sound}
use Rattle.stores.specs.declared.regions.Regions.{Regions}
use Rattle.stores.specs.Regions.{grains_before, grains_of}
use Rattle.stores.specs.Opening.{room_in, meaning_in}

pub regions_sound : (s : Regions) (look : ℕ → ℕ → Option ℕ) → Sound (meaning_in s look)
regions_sound s look =
    let o = s.in_order in
    let all : (s.grains - s.taken) + grains_before s.grain s.list s.count ≡ s.grains = let u = o.used in let w = o.within in omega arith in
    laid-sound (s.grains * s.grain) s.grain ((s.grains - s.taken) * s.grain) s.count (room_in s) (λ k. grains_before s.grain s.list k * s.grain) look
    o.grained
    o.few
    o.allowed
    (omega arith)
    (λ k h. rw add-one (add-mul (grains_before s.grain s.list k) (grains_of s.grain (room_in s k)) s.grain))
    (sym (add-mul (s.grains - s.taken) (grains_before s.grain s.list s.count) s.grain) ∙ ap (λ (n : ℕ). n * s.grain) all)
