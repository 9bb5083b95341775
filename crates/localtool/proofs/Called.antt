-- Calls made of a store one after the other.
use Rattle.std.proofs.Common.{◌≡◌, ℕ, ◌+◌, ◌<◌, ◌≤◌, List, [], ◌∷◌, ◌++◌, length, get_or, drop, sym, ap, ◌∙◌}
use Rattle.std.proofs.lemmas.List.{append_assoc, append-nil, at_drop_more, at_drop_all}
use Rattle.cells.specs.Meaning.{Meaning}
use Rattle.words.specs.declared.call.Call.{Call}
use Rattle.localtool.specs.StoreCalls.{CallAnswer, answer_to, after_call, answers_from}

-- a call made: its answer put behind the others
pub call-more : (v w : List CallAnswer) (m m' : Meaning) (cs : List Call) (i : ℕ) (d : Call) (a : CallAnswer) (whole : List CallAnswer) → i < length cs → a ≡ answer_to m (get_or cs i d) → m' ≡ after_call m (get_or cs i d) → w ≡ v ++ a ∷ [] → v ++ answers_from m (drop i cs) ≡ whole → w ++ answers_from m' (drop (i + 1) cs) ≡ whole
call-more v w m m' cs i d a whole lt ea em ew h =
    let rest = drop (i + 1) cs in
    let c = get_or cs i d in
    let step : v ++ answers_from m (drop i cs) ≡ v ++ (answer_to m c ∷ answers_from (after_call m c) rest) = at_drop_more (λ l. v ++ answers_from m l) cs i d lt in
    ap (λ l. l ++ answers_from m' rest) ew
    ∙ append_assoc v (a ∷ []) (answers_from m' rest)
    ∙ ap (λ x. v ++ (x ∷ answers_from m' rest)) ea
    ∙ ap (λ (x : Meaning). v ++ (answer_to m c ∷ answers_from x rest)) em
    ∙ sym step
    ∙ h

-- all calls made
pub call-all : (v : List CallAnswer) (m : Meaning) (cs : List Call) (i : ℕ) (whole : List CallAnswer) → length cs ≤ i → v ++ answers_from m (drop i cs) ≡ whole → v ≡ whole
call-all v m cs i whole le h = sym (append-nil v) ∙ sym (at_drop_all (λ l. v ++ answers_from m l) cs i le) ∙ h
