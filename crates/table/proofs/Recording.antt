-- Records of one width, one by one.
use Rattle.std.proofs.Common.{◌≡◌, ℕ, zero, suc, ◌+◌, ◌*◌, ◌<◌, Bool, true, false, cond, ltb, List, length, take, drop, Some, None, sym, refl, ap, ◌∙◌, suc-mul, zero-mul, arith}
use Rattle.std.specs.List.{slice_get}
use Rattle.std.proofs.lemmas.List.{drop-drop}
use Rattle.std.proofs.lemmas.Bool.{ltb-true, ltb-false}
use Rattle.std.proofs.lemmas.Option.{slice_get_past}
use Rattle.table.specs.Meaning.{records_from}

module _ {A : Type 0} (width : ℕ) (describes : List ℕ → A) where
  pub length-records : (count : ℕ) (bs : List ℕ) → length (records_from width describes count bs) ≡ count
  length-records zero bs = refl
  length-records (suc count) bs = ap suc (length-records count (drop width bs))

  pub records-nth : (count : ℕ) (bs : List ℕ) (n : ℕ) → n < count → slice_get (records_from width describes count bs) n ≡ Some (describes (take width (drop (n * width) bs)))
  records-nth zero bs n h = absurd (omega arith)
  records-nth (suc count) bs zero h = ap (λ k. Some (describes (take width (drop k bs)))) (sym (zero-mul width))
  records-nth (suc count) bs (suc n) h =
      let far : width + n * width ≡ suc n * width = let e = suc-mul n width in omega arith in
      records-nth count (drop width bs) n (omega arith)
      ∙ ap (λ l. Some (describes (take width l))) (drop-drop (n * width) width bs ∙ ap (λ k. drop k bs) far)

  -- what is got at a number
  pub records-get : (count : ℕ) (bs : List ℕ) (n : ℕ) → cond (ltb n count) (Some (describes (take width (drop (n * width) bs)))) None ≡ slice_get (records_from width describes count bs) n
  records-get count bs n = test (ltb n count) refl
    where
      test : (v : Bool) → ltb n count ≡ v → cond v (Some (describes (take width (drop (n * width) bs)))) None ≡ slice_get (records_from width describes count bs) n
      test true e = sym (records-nth count bs n (ltb-true n count e))
      test false e = let all = length-records count bs in let past = ltb-false n count e in sym (slice_get_past (records_from width describes count bs) n (omega arith))
