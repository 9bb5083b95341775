use Rattle.std.proofs.Common.{◌≡◌, ◌+◌, ◌++◌, [], length, drop, sym, ap, ◌∙◌, append_assoc, arith}
use Rattle.std.proofs.lemmas.List.{drop-drop, length-append}
use Rattle.table.specs.Encoding.{padded}
use Rattle.table.proofs.RowBytes.{padded-front}
use Rattle.table.proofs.encoding.sixteen.Goals as goal

pub returns : goal.returns
returns c =
    let front = c.args.front.now in
    let number = c.args.number.now in
    let all : length front + length number ≡ length (front ++ number) = sym (length-append front number) in
    let rest : drop (length number) c.split_at_mut-start.result.1.now ≡ drop (length (front ++ number)) (padded 16 []) =
    ap (drop (length number)) c.split_at_mut-start.ensures.back ∙ drop-drop (length number) (length front) (padded 16 []) ∙ ap (λ n. drop n (padded 16 [])) all in
    (λ i. c.copy_from_slice.ensures.after i ++ (c.copy_from_slice-2.ensures.after i ++ rest i))
    ∙ sym (append_assoc front number (drop (length (front ++ number)) (padded 16 [])))
    ∙ padded-front 16 (front ++ number) (omega arith)
