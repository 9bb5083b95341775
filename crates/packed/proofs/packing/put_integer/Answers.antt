use Rattle.std.proofs.Common.{◌≡◌, ◌+◌, ◌-◌, ◌++◌, take, drop, sym, ap, ◌∙◌, arith, w64, to_z, of_z}
use Rattle.std.proofs.lemmas.List.{drop-drop}
use Rattle.std.proofs.lemmas.Int.{to_z-of_z}
use Rattle.packed.specs.Trees.{eight}
use Rattle.packed.proofs.Digits.{low-eight, length-low}
use Rattle.packed.proofs.Fronts.{front-more}
use Rattle.packed.proofs.packing.put_integer.Goals as goal

pub returns : goal.returns
returns c word old f =
    let xs = c.args.out.now in
    let at = c.args.at in
    let k : at + (at + 8 - at) ≡ at + 8 = omega arith in
    let d = drop-drop (at + 8 - at) at xs ∙ ap (λ n. drop n xs) k in
    let y : c.copy_from_slice.new.self ≡ eight c.args.z =
    c.copy_from_slice.ensures.after ∙ c.to_le_bytes-bytes.ensures ∙ sym (low-eight (of_z w64 (to_z w64 (of_z w64 c.args.z)))) ∙ ap eight (to_z-of_z w64 c.args.z c.ranges.z) in
    front-more word old at xs (eight c.args.z) _ 8 (length-low 8 (of_z w64 c.args.z)) (λ i. take at xs ++ (y i ++ d i)) f
