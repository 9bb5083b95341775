-- What pack and unpack answer and write.
use Rattle.std.specs.Prelude.{ℕ, zero, suc, ◌+◌, ◌*◌, cond, List, [], ◌∷◌, ◌++◌, length, take, drop, ℤ, Ok, Err, Result, nat_le, nat_lt}
use Rattle.std.specs.Int.{w64}
use Rattle.std.proofs.Common.{to_z}
use Rattle.std.specs.List.{slice_get}
use Rattle.packed.specs.declared.constructor.Constructor.{Constructor}
use Rattle.packed.specs.declared.fault.Fault.{Fault}
use Rattle.packed.specs.declared.fault.Reason.{Reason}
use Rattle.packed.specs.declared.fault.Reason.TheVariants as reason
use Rattle.packed.specs.declared.node.Node.{Node}
use Rattle.packed.specs.Faults.{found}
use Rattle.packed.specs.Forms.{either}
use Rattle.packed.specs.Reading.{left, read_nodes, read_bytes}
use Rattle.packed.specs.Trees.{node_of, as_bytes}

-- how many integers the constructor numbered k has; none where there is no such constructor, which no accepted tree has
abbrev pub integers_of : List Constructor → ℕ → ℕ
integers_of g k = either (slice_get g k) 0 (λ c. c.fields.integers)

-- the bytes of nodes, head by head
abbrev pub bytes_of : List Constructor → List Node → List ℕ
bytes_of g [] = []
bytes_of g (n ∷ ns) = as_bytes n.constructor (take (integers_of g n.constructor) n.integers) ++ bytes_of g ns

-- the number that bytes make, low byte first, and the integer that eight of them make
abbrev pub joined : List ℕ → ℕ
joined [] = 0
joined (b ∷ bs) = b + 256 * joined bs

abbrev pub integer : List ℕ → ℤ
integer bs = to_z w64 (joined bs)

-- k integers in the front of bytes
abbrev pub integers_in : ℕ → List ℕ → List ℤ
integers_in zero bs = []
integers_in (suc k) bs = integer (take 8 bs) ∷ integers_in k (drop 8 bs)

-- the nodes of bytes, behind `skip` bytes of integers, up to a tag that names no constructor
abbrev pub nodes_of : List Constructor → ℕ → List ℕ → List Node
nodes_of g (suc skip) [] = []
nodes_of g (suc skip) (b ∷ bs) = nodes_of g skip bs
nodes_of g zero [] = []
nodes_of g zero (b ∷ bs) = either (slice_get g b) [] (λ c. node_of b (integers_in c.fields.integers bs) ∷ nodes_of g (8 * c.fields.integers) bs)

-- a refusal of a call, found at a place
abbrev pub refusal : Reason → ℕ → Fault
refusal why p = found why 4 p

-- The type must be one of the shapes', what is read exactly one tree of it, and the buffer long enough.
abbrev pub fitted : Result (Unit {0}) ℕ → ℕ → ℕ → Result ℕ Fault
fitted (Err p) long room = Err (refusal reason.NotOneTree p)
fitted (Ok u) long room = cond (nat_le long room) (Ok long) (Err (refusal reason.ShortBuffer 0))

abbrev pub pack_of : List Constructor → ℕ → ℕ → List Node → ℕ → Result ℕ Fault
pack_of g types t ns room = cond (nat_lt t types) (fitted (read_nodes g (t ∷ []) ns 0) (length (bytes_of g ns)) room) (Err (refusal reason.Kind 0))

abbrev pub unpack_of : List Constructor → ℕ → ℕ → List ℕ → ℕ → Result ℕ Fault
unpack_of g types t bs room = cond (nat_lt t types) (fitted (read_bytes g (left 0 (t ∷ [])) bs 0) (length (nodes_of g 0 bs)) room) (Err (refusal reason.Kind 0))

-- what a buffer holds after an answer: a refusal leaves it
abbrev pub filled : {A : Type 0} → Result ℕ Fault → List A → List A → List A
filled (Ok n) word old = word ++ drop n old
filled (Err f) word old = old
