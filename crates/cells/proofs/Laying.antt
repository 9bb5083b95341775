-- Regions that are laid out: what stands where, and what a put, an open and a meaning's soundness come down to.
use Rattle.std.proofs.Common.{◌≡◌, ℕ, zero, suc, ◌+◌, ◌<◌, ◌≤◌, ◌≢◌, List, [], ◌∷◌, ◌++◌, length, get_or, set, replicate, None, Option, sym, refl, ap, ◌∙◌, ⊎_elim, arith}
use Rattle.std.proofs.lemmas.List.{ext_get_or, length-set, get_or-set_same, get_or-set_other, length-replicate, get_or-replicate}
use Rattle.std.proofs.lemmas.List.FromFn.{length-map-range_with_len, get_or-map-range_with_len, map-range_with_len_more}
use Rattle.std.proofs.lemmas.Bool.{cases_eq}
use Rattle.cells.specs.Meaning.{Sound, most_regions, most_cells, rounded, taken}
use Rattle.cells.specs.Laid.{laid_region, laid}
use Rattle.cells.proofs.Changing.{taken-push}

pub region-length : (look : ℕ → Option ℕ) (n : ℕ) → length (laid_region look n) ≡ n
region-length look n = length-map-range_with_len look 0 n

pub region-at : (look : ℕ → Option ℕ) (n i : ℕ) (d : Option ℕ) → i < n → get_or (laid_region look n) i d ≡ look i
region-at look n i d h = get_or-map-range_with_len look 0 n i i d h (omega arith)

-- a region in which nothing changed, one in which one cell changed, and an empty one
pub region-same : (f g : ℕ → Option ℕ) (n : ℕ) → ((i : ℕ) → i < n → g i ≡ f i) → laid_region g n ≡ laid_region f n
region-same f g n same =
    let a = region-length g n in
    let b = region-length f n in
    ext_get_or None (laid_region g n) (laid_region f n) (a ∙ sym b) (λ i l. let h : i < n = omega arith in region-at g n i None h ∙ same i h ∙ sym (region-at f n i None h))

pub region-put : (f g : ℕ → Option ℕ) (n i : ℕ) (v : Option ℕ) → i < n → g i ≡ v → ((j : ℕ) → j < n → j ≢ i → g j ≡ f j) → laid_region g n ≡ set (laid_region f n) i v
region-put f g n i v within here there =
    let a = region-length g n in
    let b = region-length f n in
    ext_get_or None (laid_region g n) (set (laid_region f n) i v) (a ∙ sym (length-set (laid_region f n) i v ∙ b)) (λ j l.
    let h : j < n = omega arith in
    ⊎_elim
    (λ (e : j ≡ i). let q : i < length (laid_region f n) = omega arith in rw e (region-at g n i None within ∙ here ∙ sym (get_or-set_same (laid_region f n) i v None q)))
    (λ (e : j ≢ i). region-at g n j None h ∙ there j h e ∙ sym (get_or-set_other (laid_region f n) i j v None e ∙ region-at f n j None h))
    (cases_eq j i))

pub region-none : (f : ℕ → Option ℕ) (n : ℕ) → ((i : ℕ) → i < n → f i ≡ None) → laid_region f n ≡ replicate n None
region-none f n none =
    let a = region-length f n in
    ext_get_or None (laid_region f n) (replicate n None) (a ∙ sym (length-replicate n None)) (λ i l. let h : i < n = omega arith in region-at f n i None h ∙ none i h ∙ sym (get_or-replicate n i None None h))

module _ (count : ℕ) (rooms : ℕ → ℕ) (f : ℕ → ℕ → Option ℕ) where
  pub laid-length : length (laid count rooms f) ≡ count
  laid-length = length-map-range_with_len (λ k. laid_region (f k) (rooms k)) 0 count

  pub laid-at : (k : ℕ) → k < count → get_or (laid count rooms f) k [] ≡ laid_region (f k) (rooms k)
  laid-at k h = get_or-map-range_with_len (λ k. laid_region (f k) (rooms k)) 0 count k k [] h (omega arith)

  pub laid-room : (k : ℕ) → k < count → length (get_or (laid count rooms f) k []) ≡ rooms k
  laid-room k h = ap length (laid-at k h) ∙ region-length (f k) (rooms k)

  pub laid_cell : (k i : ℕ) → k < count → i < rooms k → get_or (get_or (laid count rooms f) k []) i None ≡ f k i
  laid_cell k i h l = ap (λ (xs : List (Option ℕ)). get_or xs i None) (laid-at k h) ∙ region-at (f k) (rooms k) i None l

-- a put at one cell
pub laid-put : (count : ℕ) (rooms : ℕ → ℕ) (f g : ℕ → ℕ → Option ℕ) (r i : ℕ) (v : Option ℕ) → r < count → i < rooms r → g r i ≡ v →
    ((j : ℕ) → j < rooms r → j ≢ i → g r j ≡ f r j) → ((k j : ℕ) → k < count → k ≢ r → j < rooms k → g k j ≡ f k j) →
    laid count rooms g ≡ set (laid count rooms f) r (set (get_or (laid count rooms f) r []) i v)
laid-put count rooms f g r i v known within here row-there there =
    let a = laid-length count rooms g in
    let b = laid-length count rooms f in
    let o = laid-at count rooms f r known in
    let new : List (Option ℕ) = set (get_or (laid count rooms f) r []) i v in
    ext_get_or [] (laid count rooms g) (set (laid count rooms f) r new) (a ∙ sym (length-set (laid count rooms f) r new ∙ b)) (λ k l.
    let h : k < count = omega arith in
    ⊎_elim
    (λ (e : k ≡ r).
    let q : r < length (laid count rooms f) = omega arith in
    rw e (laid-at count rooms g r known ∙ region-put (f r) (g r) (rooms r) i v within here row-there ∙ ap (λ (xs : List (Option ℕ)). set xs i v) (sym o) ∙ sym (get_or-set_same (laid count rooms f) r new [] q)))
    (λ (e : k ≢ r). laid-at count rooms g k h ∙ region-same (f k) (g k) (rooms k) (λ j m. there k j h e m) ∙ sym (get_or-set_other (laid count rooms f) r k new [] e ∙ laid-at count rooms f k h))
    (cases_eq k r))

-- nothing changed in any region
pub laid_same : (count : ℕ) (rooms rooms' : ℕ → ℕ) (f g : ℕ → ℕ → Option ℕ) → ((k : ℕ) → k < count → rooms' k ≡ rooms k) → ((k j : ℕ) → k < count → j < rooms k → g k j ≡ f k j) → laid count rooms' g ≡ laid count rooms f
laid_same count rooms rooms' f g sizes same =
    let a = laid-length count rooms' g in
    let b = laid-length count rooms f in
    ext_get_or [] (laid count rooms' g) (laid count rooms f) (a ∙ sym b) (λ k l.
    let h : k < count = omega arith in
    laid-at count rooms' g k h ∙ ap (laid_region (g k)) (sizes k h) ∙ region-same (f k) (g k) (rooms k) (λ j m. same k j h m) ∙ sym (laid-at count rooms f k h))

-- one region more, which is empty
pub laid-open : (count : ℕ) (rooms rooms' : ℕ → ℕ) (f g : ℕ → ℕ → Option ℕ) (n : ℕ) → rooms' count ≡ n → ((i : ℕ) → i < n → g count i ≡ None) →
    ((k : ℕ) → k < count → rooms' k ≡ rooms k) → ((k j : ℕ) → k < count → j < rooms k → g k j ≡ f k j) →
    laid (count + 1) rooms' g ≡ laid count rooms f ++ (replicate n None ∷ [])
laid-open count rooms rooms' f g n size none sizes same =
    let old : laid count rooms' g ≡ laid count rooms f = laid_same count rooms rooms' f g sizes same in
    let new : laid_region (g count) (rooms' count) ≡ replicate n None = ap (laid_region (g count)) size ∙ region-none (g count) n none in
    map-range_with_len_more (λ k. laid_region (g k) (rooms' k)) 0 count count (omega arith) ∙ rw (old, new) refl

-- regions one behind another take what lies before the end of the last
pub laid-taken : (g : ℕ) (rooms starts : ℕ → ℕ) (f : ℕ → ℕ → Option ℕ) → starts 0 ≡ 0 → (count : ℕ) → ((k : ℕ) → k < count → starts (k + 1) ≡ starts k + rounded g (rooms k)) → taken g (laid count rooms f) ≡ starts count
laid-taken g rooms starts f first zero steps = sym first
laid-taken g rooms starts f first (suc n) steps =
    let one : suc n ≡ n + 1 = omega arith in
    let here : taken g (laid n rooms f) ≡ starts n = laid-taken g rooms starts f first n (λ k h. steps k (omega arith)) in
    let more : laid (n + 1) rooms f ≡ laid n rooms f ++ (laid_region (f n) (rooms n) ∷ []) = map-range_with_len_more (λ k. laid_region (f k) (rooms k)) 0 n n (omega arith) in
    let last : starts (n + 1) ≡ starts n + rounded g (rooms n) = steps n (omega arith) in
    let push = taken-push g (laid n rooms f) (laid_region (f n) (rooms n)) in
    ap (λ (k : ℕ). taken g (laid k rooms f)) one ∙ ap (taken g) more ∙ push ∙ rw (here, region-length (f n) (rooms n)) (sym last) ∙ ap starts (sym one)

-- what a layout has to show for its meaning to be sound
pub laid-sound : (total g free count : ℕ) (rooms starts : ℕ → ℕ) (f : ℕ → ℕ → Option ℕ) → 1 ≤ g → count ≤ most_regions → ((k : ℕ) → k < count → (1 ≤ rooms k) × (rooms k ≤ most_cells)) →
    starts 0 ≡ 0 → ((k : ℕ) → k < count → starts (k + 1) ≡ starts k + rounded g (rooms k)) → free + starts count ≡ total →
    Sound (record { total = total; grain = g; free = free; regions = laid count rooms f })
laid-sound total g free count rooms starts f grained few roomy first steps whole =
    let n = laid-length count rooms f in
    let t = laid-taken g rooms starts f first count steps in
    record {
      grained = grained;
      few = omega arith;
      roomy = λ r h. let k : r < count = omega arith in rw (laid-room count rooms f r k) (roomy r k);
      whole = omega arith;
    }
