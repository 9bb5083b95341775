use Rattle.std.proofs.Common.{◌≡◌, ℕ, ◌+◌, ◌*◌, ◌<◌, ◌≤◌, length, None, ap, ◌∙◌, arith}
use Rattle.std.proofs.lemmas.List.{length-set}
use Rattle.stores.specs.declared.paged.Paged.{Paged}
use Rattle.stores.specs.Slots.{page_of}
use Rattle.stores.proofs.Slots.{tie-same, tie-low, tie-once, tie-loose, pages-set, pages-below}
use Rattle.stores.proofs.Pageds.{tied-low, paged-tie}
use Rattle.stores.proofs.paged.Paged.tie.Goals as goal

-- there is a page left, and the slot lies in the table
room-left : (s : Paged) (j : ℕ) → j < s.regions.taken → page_of s.slots j ≡ None → (s.tied < s.regions.grains) × (s.regions.grains ≤ 1024) × (j < length s.slots)
room-left s j h e =
    let w = tied-low s in
    let l = s.sized in
    let k = pages-below s.slots s.regions.taken j s.loose h (omega arith) e in
    let n = s.counted in
    (omega arith, omega arith, omega arith)

pub overflow_add-self : goal.overflow_add-self
overflow_add-self c = let h = room-left c.args.self.now c.args.slot c.requires.used c.requires.loose in omega arith

pub invariant_of-self : goal.invariant_of-self
invariant_of-self c =
    let s = c.args.self.now in
    let j : ℕ = c.args.slot in
    let h = room-left s j c.requires.used c.requires.loose in
    record {
      grained = s.grained;
      sized = length-set s.slots _ _ ∙ s.sized;
      whole = s.whole;
      loose = tie-loose s.slots s.tied j s.low c.requires.loose h.2 s.regions.taken c.requires.used s.loose;
      low = tie-low s.slots s.tied j s.low c.requires.loose h.2;
      once = tie-once s.slots s.tied j s.low c.requires.loose h.2 s.once;
      counted = pages-set s.slots j s.tied c.requires.loose h.2 ∙ ap (λ (k : ℕ). k + 1) s.counted;
      clear = λ p a b. s.clear p (omega arith) b;
    }

pub returns-clause-same : goal.returns-clause-same
returns-clause-same c =
    let s = c.args.self.now in
    let h = room-left s c.args.slot c.requires.used c.requires.loose in
    paged-tie s _ (tie-same s.slots s.tied c.args.slot s.low c.requires.loose h.2 s.cells.now (s.regions.grains * 64) s.clear (omega arith))
