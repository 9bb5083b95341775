-- The row that is named as out of order is the lowest that is.
use Rattle.std.proofs.Common.{◌≡◌, ℕ, ◌+◌, ◌≤◌, Bool, true, false, cond, List, [], ◌∷◌, ◌++◌, drop, Some, None, Option, sym, refl, ap, ◌∙◌, subst, inl, inr, arith}
use Rattle.std.specs.List.{slice_get}
use Rattle.table.specs.declared.row.Row.{Row}
use Rattle.table.specs.Order.{Due, children, stands, misnamed, least, disorder, bodies}
use Rattle.table.specs.Faults.{Reading, Faulty}
use Rattle.table.specs.Faults.Reading.{begin, on}
use Rattle.table.specs.Faults.Faulty.{missing, over, misplaced, misnaming}
use Rattle.table.proofs.Leasts.{least-assoc, least-from, AtMost, at-most-left, at-most-right}
use Rattle.table.proofs.Walking.{row_at, row-of-drop, none-of-drop, row-off, row_on}

module _ (rows : List Row) (firsts : List ℕ) where
  abbrev read : List Due → ℕ → Option ℕ
  read due n = disorder due (drop n rows) n

  -- what reading answers from any row that it comes to is no less than what it answers from the first
  reading-is : {due : List Due} {n : ℕ} → Reading rows firsts due n → (o : Option ℕ) × (disorder (bodies firsts) rows 0 ≡ least o (read due n))
  reading-is begin = (None, refl)
  reading-is (on {d} {due} {n} {r} before here fits) =
      let b = reading-is before in
      (least b.0 (misnamed d n), b.1 ∙ ap (least b.0) (row_on rows n d due r true here fits) ∙ least-assoc b.0 (misnamed d n) (read (children n r ++ due) (n + 1)))

  at-most-read : {due : List Due} {n : ℕ} (q : ℕ) → Reading rows firsts due n → AtMost (read due n) q → AtMost (disorder (bodies firsts) rows 0) q
  at-most-read {due} {n} q here h = let b = reading-is here in subst (λ o. AtMost o q) (sym b.1) (at-most-right b.0 (read due n) q h)

  misnaming-least : (d : Due) (due : List Due) (rest : List Row) (n m : ℕ) → misnamed d n ≡ Some m → AtMost (disorder (d ∷ due) rest n) m
  misnaming-least d due [] n m e = subst (λ o. AtMost (least o (Some n)) m) (sym e) (at-most-left (Some m) (Some n) m (omega arith))
  misnaming-least d due (r ∷ rest) n m e =
      let o = cond (stands d n r) (disorder (children n r ++ due) rest (n + 1)) (Some n) in
      subst (λ p. AtMost (least p o) m) (sym e) (at-most-left (Some m) o m (omega arith))

  -- no row that is out of order is lower
  least-fault : (q : ℕ) → Faulty rows firsts q → AtMost (disorder (bodies firsts) rows 0) q
  least-fault q (missing {d} {due} before none) = at-most-read q before (subst (λ o. AtMost o q) (sym (row-off rows q d due none)) (at-most-right (misnamed d q) (Some q) q (omega arith)))
  least-fault q (over {n} {r} before here) = at-most-read q before (subst (λ l. AtMost (disorder [] l q) q) (sym (row_at rows q r here)) (omega arith))
  least-fault q (misplaced {d} {due} {n} {r} before here off) = at-most-read q before (subst (λ o. AtMost o q) (sym (row_on rows q d due r false here off)) (at-most-right (misnamed d q) (Some q) q (omega arith)))
  least-fault q (misnaming {d} {due} {n} before wrong) = at-most-read q before (misnaming-least d due (drop n rows) n q wrong)

  -- and the row that is named is one
  found : (due : List Due) (rest : List Row) (n p : ℕ) → Reading rows firsts due n → drop n rows ≡ rest → disorder due rest n ≡ Some p → Faulty rows firsts p
  found [] [] n p before e o = cc
  found [] (r ∷ rest) n p before e o = let same : n ≡ p = cc in subst (Faulty rows firsts) same (over before (row-of-drop rows n r rest e).0)
  found (d ∷ due) [] n p before e o =
      elim (least-from (misnamed d n) (Some n) p o) [
        | inl wrong ↦ misnaming before wrong
        | inr here ↦ (let same : n ≡ p = cc in subst (Faulty rows firsts) same (missing before (none-of-drop rows n e)))
      ]
  found (d ∷ due) (r ∷ rest) n p before e o =
      elim (least-from (misnamed d n) (cond (stands d n r) (disorder (children n r ++ due) rest (n + 1)) (Some n)) p o) [
        | inl wrong ↦ misnaming before wrong
        | inr here ↦ go (stands d n r) refl here (λ fits f. found (children n r ++ due) rest (n + 1) p (on before at.0 fits) at.1 f)
      ]
    where
      at : (slice_get rows n ≡ Some r) × (drop (n + 1) rows ≡ rest)
      at = row-of-drop rows n r rest e

      go : (b : Bool) → stands d n r ≡ b → cond b (disorder (children n r ++ due) rest (n + 1)) (Some n) ≡ Some p → (stands d n r ≡ true → disorder (children n r ++ due) rest (n + 1) ≡ Some p → Faulty rows firsts p) → Faulty rows firsts p
      go true fits f again = again fits f
      go false off f again = let same : n ≡ p = cc in subst (Faulty rows firsts) same (misplaced before at.0 off)

  pub lowest : (o : Option ℕ) → o ≡ disorder (bodies firsts) rows 0 → (p : ℕ) → o ≡ Some p → Faulty rows firsts p × ((q : ℕ) → Faulty rows firsts q → p ≤ q)
  lowest o e p named =
      let here : disorder (bodies firsts) rows 0 ≡ Some p = sym e ∙ named in
      (found (bodies firsts) rows 0 p begin refl here, λ q f. subst (λ o. AtMost o q) here (least-fault q f))

  -- where no row is named none is out of order
  pub no-fault : (o : Option ℕ) → o ≡ disorder (bodies firsts) rows 0 → o ≡ None → (q : ℕ) → Faulty rows firsts q → ⊥
  no-fault o e none q f = subst (λ o. AtMost o q) (sym e ∙ none) (least-fault q f)

  -- the lowest row that is out of order is the one that is named
  pub lowest-named : (n : ℕ) → Faulty rows firsts n → ((q : ℕ) → Faulty rows firsts q → n ≤ q) → disorder (bodies firsts) rows 0 ≡ Some n
  lowest-named n here least = go (disorder (bodies firsts) rows 0) refl
    where
      go : (o : Option ℕ) → disorder (bodies firsts) rows 0 ≡ o → disorder (bodies firsts) rows 0 ≡ Some n
      go None e = absurd (subst (λ o. AtMost o n) e (least-fault n here))
      go (Some p) e =
          let low = lowest (disorder (bodies firsts) rows 0) refl p e in
          let a = low.1 n here in
          let b = least p low.0 in
          let same : p ≡ n = omega arith in
          e ∙ ap Some same
