-- What the program answers of a line.
use Rattle.std.specs.Prelude.{◌≡◌, ◌⊎◌, ℕ, List, Some, None, Ok, Err, vec_items, codes, Option, Result}
use Rattle.std.specs.Option.{option_map}
use Rattle.packed.specs.declared.fault.Fault.{Fault}
use Rattle.packed.specs.declared.node.Node.{Node}
use Rattle.packed.specs.Forms.{either}
use Rattle.packed.specs.Packing.{bytes_of, nodes_of, pack_of, unpack_of}
use Rattle.checker.specs.Checking.{check_of}
use Rattle.localtool.specs.declared.answer.Answer.{Answer}
use Rattle.localtool.specs.declared.answer.Answer.TheVariants as answer
use Rattle.words.specs.declared.refusal.Refusal.{Refusal}
use Rattle.words.specs.declared.refusal.Refusal.TheVariants as refusal
use Rattle.localtool.specs.declared.layout.Layout.{Layout}
use Rattle.localtool.specs.declared.layout.Layout.TheVariants as layout
use Rattle.localtool.specs.declared.request.Request.{Request}
use Rattle.words.specs.Calls.{calls_written}
use Rattle.words.specs.Hex.{written}
use Rattle.words.specs.Nodes.{nodes_written}
use Rattle.words.specs.Numbers.{byte_of, room_of}
use Rattle.localtool.specs.Programs.{Types, judged_of}
use Rattle.localtool.specs.StoreCalls.{CallAnswer, answers_from, new_of}
use Rattle.words.specs.Text.{behind_name, head_of, tail_of}

-- an answer, with lists for its vectors
pub data Reply : Type 0 where
  Right : Reply
  Packed : List ℕ → Reply
  Unpacked : List Node → Reply
  Told : List CallAnswer → Reply
  Faulty : Fault → Reply
  Bad : Reply

abbrev pub answered : Answer → Reply
answered answer.Right = Right
answered (answer.Packed bytes) = Packed (vec_items bytes)
answered (answer.Unpacked nodes) = Unpacked (vec_items nodes)
answered (answer.Told told) = Told (vec_items told)

-- what a result replies, unless memory ran out
abbrev pub reply_in : Result Answer Refusal → Option Reply
reply_in (Ok a) = Some (answered a)
reply_in (Err (refusal.Faulty fault)) = Some (Faulty fault)
reply_in (Err refusal.Bad) = Some Bad
reply_in (Err (refusal.NoMemory e)) = None

-- what is answered of the types of an accepted table, or its fault
abbrev pub on_types : Result Types Fault → (Types → Reply) → Reply
on_types (Ok ts) reply = reply ts
on_types (Err f) reply = Faulty f

-- what a command asks of a program: the table, a type, and how many places a buffer has
pub record Asked : Type 0 where
  pub bytes : List ℕ
  pub type : ℕ
  pub places : ℕ

-- the first three words, with spaces (32) behind them
abbrev pub request_of : List ℕ → Option Asked
request_of operands =
    either (tail_of 32 operands) None (λ second.
    either (tail_of 32 second) None (λ third.
    either (byte_of (head_of 32 second)) None (λ t.
    either (room_of (head_of 32 third)) None (λ n.
    option_map (λ bs. record { bytes = bs; type = t; places = n }) (written (head_of 32 operands))))))

-- what stands behind them
abbrev pub last_of : List ℕ → Option (List ℕ)
last_of operands = either (tail_of 32 operands) None (λ second. either (tail_of 32 second) None (tail_of 32))

-- what a request is for these operands, where its table's word has bytes, and where there is none
abbrev pub Asks : List ℕ → Request → Type 0
Asks operands q =
    (request_of operands ≡ option_map (λ bs. record { bytes = bs; type = q.ty; places = q.room }) (written q.table.now))
    × (last_of operands ≡ Some q.last.now)

abbrev pub AsksNothing : List ℕ → Type 0
AsksNothing operands = (request_of operands ≡ None) ⊎ (last_of operands ≡ None)

-- what is replied to these operands, where the last one is read and answered so
abbrev pub asked_reply : {A : Type 0} → (List ℕ → Option A) → (Types → ℕ → ℕ → A → Reply) → List ℕ → Reply
asked_reply read reply operands =
    either (request_of operands) Bad (λ q.
    either (last_of operands) Bad (λ word.
    either (read word) Bad (λ x.
    on_types (judged_of q.bytes) (λ ts. reply ts q.type q.places x))))

-- check TABLE
abbrev pub checked_reply : Result (Unit {0}) Fault → Reply
checked_reply (Ok u) = Right
checked_reply (Err f) = Faulty f

abbrev pub check_reply : List ℕ → Reply
check_reply operands = either (written operands) Bad (λ bs. checked_reply (check_of bs))

-- pack TABLE TYPE BUFFER NODES
abbrev pub packed_reply : Result ℕ Fault → List ℕ → Reply
packed_reply (Ok n) bytes = Packed bytes
packed_reply (Err f) bytes = Faulty f

abbrev pub pack_reply_for : Types → ℕ → ℕ → List Node → Reply
pack_reply_for ts t n ns = packed_reply (pack_of ts.forms ts.count t ns n) (bytes_of ts.forms ns)

abbrev pub pack_reply : List ℕ → Reply
pack_reply = asked_reply nodes_written pack_reply_for

-- unpack TABLE TYPE BUFFER BYTES
abbrev pub unpacked_reply : Result ℕ Fault → List Node → Reply
unpacked_reply (Ok n) nodes = Unpacked nodes
unpacked_reply (Err f) nodes = Faulty f

abbrev pub unpack_reply_for : Types → ℕ → ℕ → List ℕ → Reply
unpack_reply_for ts t n bs = unpacked_reply (unpack_of ts.forms ts.count t bs n) (nodes_of ts.forms 0 bs)

abbrev pub unpack_reply : List ℕ → Reply
unpack_reply = asked_reply written unpack_reply_for

-- store flat|paged CELLS OPS: a new store is called
abbrev pub store_reply_for : Layout → List ℕ → Reply
store_reply_for l operands =
    either (tail_of 32 operands) Bad (λ word.
    either (room_of (head_of 32 operands)) Bad (λ n.
    either (calls_written word) Bad (λ cs. Told (answers_from (new_of l n) cs))))

abbrev pub store_reply : List ℕ → Reply
store_reply operands =
    either (behind_name (codes "flat ") operands)
    (either (behind_name (codes "paged ") operands) Bad (store_reply_for layout.Paged))
    (store_reply_for layout.Flat)

-- a line is answered by its command's name, and is bad where it begins with none
abbrev pub reply_to : List ℕ → Reply
reply_to line =
    either (behind_name (codes "check ") line)
    (either (behind_name (codes "pack ") line)
    (either (behind_name (codes "unpack ") line)
    (either (behind_name (codes "store ") line) Bad store_reply)
    unpack_reply)
    pack_reply)
    check_reply
