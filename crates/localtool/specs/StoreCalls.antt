-- What a store of a meaning answers to calls, one after the other.
use Rattle.std.specs.Prelude.{ℕ, ◌*◌, ◌/◌, min, List, [], ◌∷◌, length, Ok, Err, Result}
use Rattle.packed.specs.declared.fault.Fault.{Fault}
use Rattle.cells.specs.Meaning.{Meaning, room_at, fresh}
use Rattle.cells.specs.Calls.{answer, open_refusal, put_refusal, get_refusal, room_refusal, byte_at, after_open, after_put}
use Rattle.words.specs.declared.call.Call.{Call}
use Rattle.words.specs.declared.call.Call.TheVariants as call
use Rattle.localtool.specs.declared.answer.Told.{Told}
use Rattle.localtool.specs.declared.answer.Told.TheVariants as told
use Rattle.localtool.specs.declared.layout.Layout.{Layout}
use Rattle.localtool.specs.declared.layout.Layout.TheVariants as layout

-- what a store answers to one call
abbrev pub CallAnswer : Type 0
CallAnswer = Result Told Fault

abbrev pub numbered : Result ℕ Fault → CallAnswer
numbered (Ok n) = Ok (told.Number n)
numbered (Err f) = Err f

abbrev pub filled : Result (Unit {0}) Fault → CallAnswer
filled (Ok u) = Ok told.Done
filled (Err f) = Err f

-- one call: what is answered, and what the store means after it
abbrev pub answer_to : Meaning → Call → CallAnswer
answer_to m (call.Open n) = numbered (answer (open_refusal m n) (length m.regions))
answer_to m (call.Put r i b) = filled (answer (put_refusal m r i) tt)
answer_to m (call.Get r i) = numbered (answer (get_refusal m r i) (byte_at m r i))
answer_to m call.Free = Ok (told.Number m.free)
answer_to m call.Grain = Ok (told.Number m.grain)
answer_to m call.Regions = Ok (told.Number (length m.regions))
answer_to m (call.Room r) = numbered (answer (room_refusal m r) (room_at m r))

abbrev pub after_call : Meaning → Call → Meaning
after_call m (call.Open n) = after_open m n
after_call m (call.Put r i b) = after_put m r i b
after_call m (call.Get r i) = m
after_call m call.Free = m
after_call m call.Grain = m
after_call m call.Regions = m
after_call m (call.Room r) = m

abbrev pub answers_from : Meaning → List Call → List CallAnswer
answers_from m [] = []
answers_from m (c ∷ cs) = answer_to m c ∷ answers_from (after_call m c) cs

-- a new store on so many numbers: a flat one uses the first 65,536 of them, a paged one the whole pages of 64 among these
abbrev pub new_flat : ℕ → Meaning
new_flat cells = fresh (min cells 65536) 1

abbrev pub new_paged : ℕ → Meaning
new_paged cells = fresh (min (cells / 64) 1024 * 64) 64

abbrev pub new_of : Layout → ℕ → Meaning
new_of layout.Flat cells = new_flat cells
new_of layout.Paged cells = new_paged cells
