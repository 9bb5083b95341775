-- The bytes of records, one record at a time.
use Rattle.std.proofs.Common.{◌≡◌, ℕ, ◌+◌, ◌<◌, List, [], ◌∷◌, ◌++◌, length, get_or, take, Some, sym, refl, ap, ◌∙◌}
use Rattle.std.specs.List.{slice_get}
use Rattle.std.proofs.lemmas.List.{append_assoc, append-nil, take_more}
use Rattle.table.specs.Writing.{spelt}

module _ {A : Type 0} (spell : A → List ℕ) where
  pub spelt-append : (xs ys : List A) → spelt spell (xs ++ ys) ≡ spelt spell xs ++ spelt spell ys
  spelt-append [] ys = refl
  spelt-append (x ∷ xs) ys = ap (λ l. spell x ++ l) (spelt-append xs ys) ∙ sym (append_assoc (spell x) (spelt spell xs) (spelt spell ys))

  -- one record more
  pub spelt-push : (xs : List A) (i : ℕ) (d : A) → i < length xs → spelt spell (take i xs) ++ spell (get_or xs i d) ≡ spelt spell (take (i + 1) xs)
  spelt-push xs i d h =
      ap (λ l. spelt spell (take i xs) ++ l) (sym (append-nil (spell (get_or xs i d))))
      ∙ sym (spelt-append (take i xs) (get_or xs i d ∷ []))
      ∙ ap (spelt spell) (sym (take_more xs i d h))

-- one place of a list holds one record
pub same-there : {A : Type 0} (xs : List A) (i k : ℕ) (x y : A) → k ≡ i → slice_get xs i ≡ Some x → slice_get xs k ≡ Some y → x ≡ y
same-there xs i k x y q a b = let c = ap (slice_get xs) q in cc
