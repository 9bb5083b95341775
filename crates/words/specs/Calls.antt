-- Calls of a store that are written as text.
use Rattle.std.specs.Prelude.{ℕ, cond, List, length, Some, None, codes, Option, ◌==◌, slice_index}
use Rattle.packed.specs.Forms.{either}
use Rattle.words.specs.declared.call.Call.{Call}
use Rattle.words.specs.declared.call.Call.TheVariants as call
use Rattle.words.specs.Text.{behind_name, head_of, tail_of, pieces, each_of}
use Rattle.words.specs.Numbers.{byte_of, room_of}

-- behind the letter of a call: its numbers, with colons (58) between them
abbrev pub open_spelled : List ℕ → Option Call
open_spelled text = either (room_of text) None (λ n. Some (call.Open n))

abbrev pub put_spelled : List ℕ → Option Call
put_spelled text =
    either (tail_of 58 text) None (λ second.
    either (tail_of 58 second) None (λ third.
    either (room_of (head_of 58 text)) None (λ r.
    either (room_of (head_of 58 second)) None (λ i.
    either (byte_of third) None (λ b. Some (call.Put r i b))))))

abbrev pub get_spelled : List ℕ → Option Call
get_spelled text =
    either (tail_of 58 text) None (λ second.
    either (room_of (head_of 58 text)) None (λ r.
    either (room_of second) None (λ i. Some (call.Get r i))))

abbrev pub room_spelled : List ℕ → Option Call
room_spelled text = either (room_of text) None (λ r. Some (call.Room r))

-- a question without numbers is one letter: f (102), n (110) or r (114)
abbrev pub letter_of : ℕ → Option Call
letter_of c = cond (c == 102) (Some call.Free) (cond (c == 110) (Some call.Grain) (cond (c == 114) (Some call.Regions) None))

abbrev pub question_spelled : List ℕ → Option Call
question_spelled text = cond (length text == 1) (letter_of (slice_index text 0)) None

abbrev pub call_spelled : List ℕ → Option Call
call_spelled text =
    either (behind_name (codes "o:") text)
    (either (behind_name (codes "p:") text)
    (either (behind_name (codes "g:") text)
    (either (behind_name (codes "m:") text) (question_spelled text) room_spelled)
    get_spelled)
    put_spelled)
    open_spelled

-- the calls that a word of a command writes, at least one, with commas (44) between them
abbrev pub calls_written : List ℕ → Option (List Call)
calls_written word = each_of call_spelled (pieces 44 word)
