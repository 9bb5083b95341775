-- What an answer of pack or unpack says of trees: the same for both ways.
use Rattle.std.proofs.Common.{◌≡◌, ℕ, ◌<◌, Bool, true, false, cond, ltb, leb, List, length, take, drop, Ok, Err, Result, sym, refl, ap, ◌∙◌, subst, arith}
use Rattle.std.proofs.lemmas.List.{take_at}
use Rattle.std.proofs.lemmas.Bool.{ltb-true, ltb-false, leb-false}
use Rattle.packed.specs.declared.constructor.Constructor.{Constructor}
use Rattle.packed.specs.declared.fault.Fault.{Fault}
use Rattle.packed.specs.declared.fault.Reason.TheVariants as reason
use Rattle.packed.specs.Trees.{spelled}
use Rattle.packed.specs.Packing.{refusal, fitted, filled}
use Rattle.packed.specs.Laws.{Spelling, Spells, Leaves, Refused, Judged}
use Rattle.packed.specs.Laws.Refused.{unknown, broken, short}
use Rattle.packed.proofs.Words.{never}

-- `read` is what reading the word as a tree of type t answered, `written` what the word turns into, `old` the buffer before
module _ {A B : Type 0} (from : Spelling A) (to : Spelling B) (g : List Constructor) (types t : ℕ) (word : List A) (read : Result (Unit {0}) ℕ) (written old : List B) where
  abbrev pub answered : Result ℕ Fault
  answered = cond (ltb t types) (fitted read (length written) (length old)) (Err (refusal reason.Kind 0))

  -- only a known type is accepted
  pub known-type : (n : ℕ) → Ok n ≡ answered → t < types
  known-type n v = step (ltb t types) refl
    where
      step : (b : Bool) → ltb t types ≡ b → t < types
      step true e = ltb-true t types e
      step false e = never answered n (sym v) (ap (λ b. cond b (fitted read (length written) (length old)) (Err (refusal reason.Kind 0))) e)

  module _ (leaves : t < types → (p : ℕ) → read ≡ Err p → Leaves from g types t word p) (spells : t < types → read ≡ Ok tt → (x : Spells from g t word) × (written ≡ spelled to x.0)) (r : Result ℕ Fault) (out : List B) (value : r ≡ answered) (after : out ≡ filled r written old) where
    refused : (f : Fault) → r ≡ Err f → Refused from to g types t word (length old) f → Judged from to g types t word out r
    refused f e w =
        let kept : out ≡ old = after ∙ ap (λ q. filled q written old) e in
        subst (Judged from to g types t word out) (sym e) (subst (λ o. Refused from to g types t word (length o) f) (sym kept) w)

    turned : r ≡ Ok (length written) → (x : Spells from g t word) → written ≡ spelled to x.0 → Judged from to g types t word out r
    turned e x same =
        let n = length written in
        let now : take (length written) out ≡ written = ap (λ l. take n l) (after ∙ ap (λ q. filled q written old) e) ∙ take_at written (drop n old) n refl in
        subst (Judged from to g types t word out) (sym e) (record { shape = x.0; typed = x.1; was = x.2; long = ap length (sym same); now_is = sym (now ∙ same) })

    pub judged : Judged from to g types t word out r
    judged = by_type (ltb t types) refl
      where
        by_room : t < types → r ≡ fitted (Ok tt) (length written) (length old) → (x : Spells from g t word) → written ≡ spelled to x.0 → (b : Bool) → leb (length written) (length old) ≡ b → Judged from to g types t word out r
        by_room known v x same true e = turned (v ∙ ap (λ b. cond b (Ok (length written)) (Err (refusal reason.ShortBuffer 0))) e) x same
        by_room known v x same false e =
            let less = leb-false (length written) (length old) e in
            let long = ap length same in
            refused (refusal reason.ShortBuffer 0) (v ∙ ap (λ b. cond b (Ok (length written)) (Err (refusal reason.ShortBuffer 0))) e) (short x.0 x.1 x.2 (omega arith))

        by_reading : t < types → (q : Result (Unit {0}) ℕ) → read ≡ q → r ≡ fitted q (length written) (length old) → Judged from to g types t word out r
        by_reading known (Err p) e v = refused (refusal reason.NotOneTree p) v (broken (leaves known p e))
        by_reading known (Ok u) e v = let x = spells known e in by_room known v x.0 x.1 (leb (length written) (length old)) refl

        by_type : (b : Bool) → ltb t types ≡ b → Judged from to g types t word out r
        by_type true e = by_reading (ltb-true t types e) read refl (value ∙ ap (λ b. cond b (fitted read (length written) (length old)) (Err (refusal reason.Kind 0))) e)
        by_type false e = refused (refusal reason.Kind 0) (value ∙ ap (λ b. cond b (fitted read (length written) (length old)) (Err (refusal reason.Kind 0))) e) (unknown (ltb-false t types e))
