-- What pack and unpack promise, in the words of trees.
use Rattle.std.specs.Prelude.{◌≡◌, ℕ, ◌+◌, ◌<◌, ◌≤◌, List, ◌++◌, length, take, ℤ, Ok, Err, Result}
use Rattle.packed.specs.declared.constructor.Constructor.{Constructor}
use Rattle.packed.specs.declared.fault.Fault.{Fault}
use Rattle.packed.specs.declared.fault.Reason.TheVariants as reason
use Rattle.packed.specs.declared.node.Node.{Node}
use Rattle.packed.specs.Packing.{refusal, bytes_of, nodes_of, pack_of, unpack_of}
use Rattle.packed.specs.Trees.{Tree, OfType, spelled}

-- a way to spell a head: as bytes, or as a node
abbrev pub Spelling : Type 0 → Type 0
Spelling A = ℕ → List ℤ → List A

-- the word spells a tree of type t
abbrev pub Spells : {A : Type 0} → Spelling A → List Constructor → ℕ → List A → Type 0
Spells head g t word = (x : Tree) × OfType g t x × (spelled head x ≡ word)

-- a tree of type t begins with the word
abbrev pub Begins : {A : Type 0} → Spelling A → List Constructor → ℕ → List A → Type 0
Begins {A} head g t word = (x : Tree) × (rest : List A) × OfType g t x × (spelled head x ≡ word ++ rest)

-- every type has a finite tree
abbrev pub Finite : List Constructor → ℕ → Type 0
Finite g types = (t : ℕ) → t < types → (x : Tree) × OfType g t x

-- At p the word leaves the trees of type t: none begins with what stands up to and including p, or the word ends
-- there, unfinished, since neither it nor a front of it is one. Where every type has a finite tree, p is the least such
-- place: a tree begins with each shorter front.
pub record Leaves {A : Type 0} (head : Spelling A) (g : List Constructor) (types t : ℕ) (word : List A) (p : ℕ) : Type 0 where
  pub inside : p ≤ length word
  pub stuck : p < length word → Begins head g t (take (p + 1) word) → ⊥
  pub unfinished : p ≡ length word → (q : ℕ) → q ≤ p → Spells head g t (take q word) → ⊥
  pub least : Finite g types → (q : ℕ) → q < p → Begins head g t (take (q + 1) word)

-- one tree of type t is what was read, and is what the first n symbols of the buffer spell
pub record Turned {A B : Type 0} (from : Spelling A) (to : Spelling B) (g : List Constructor) (t : ℕ) (word : List A) (out : List B) (n : ℕ) : Type 0 where
  pub shape : Tree
  pub typed : OfType g t shape
  pub was : spelled from shape ≡ word
  pub long : length (spelled to shape) ≡ n
  pub now_is : spelled to shape ≡ take n out

-- why nothing was written
pub data Refused {A B : Type 0} (from : Spelling A) (to : Spelling B) (g : List Constructor) (types t : ℕ) (word : List A) (room : ℕ) : Fault → Type 0 where
  -- 32: there is no such type
  unknown : types ≤ t → Refused from to g types t word room (refusal reason.Kind 0)
  -- 43: the word leaves the trees of the type
  broken : {p : ℕ} → Leaves from g types t word p → Refused from to g types t word room (refusal reason.NotOneTree p)
  -- 53: it is a tree of the type, and the buffer is too short for it
  short : (x : Tree) → OfType g t x → spelled from x ≡ word → room < length (spelled to x) → Refused from to g types t word room (refusal reason.ShortBuffer 0)

abbrev pub Judged : {A B : Type 0} → Spelling A → Spelling B → List Constructor → ℕ → ℕ → List A → List B → Result ℕ Fault → Type 0
Judged from to g types t word out (Ok n) = Turned from to g t word out n
Judged from to g types t word out (Err f) = Refused from to g types t word (length out) f

-- every tree of a known type that fits the buffer is accepted
abbrev pub Accepts : {A B : Type 0} → Spelling A → Spelling B → List Constructor → ℕ → ℕ → List A → ℕ → Result ℕ Fault → Type 0
Accepts from to g types t word room r = (x : Tree) → OfType g t x → t < types → spelled from x ≡ word → length (spelled to x) ≤ room → r ≡ Ok (length (spelled to x))

-- what pack wrote unpacks to the nodes that it was given, and what unpack wrote packs to its bytes
abbrev pub UnpacksTo : List Constructor → ℕ → ℕ → List Node → List ℕ → Result ℕ Fault → Type 0
UnpacksTo g types t nodes out (Ok n) = (unpack_of g types t (take n out) (length nodes) ≡ Ok (length nodes)) × (nodes_of g 0 (take n out) ≡ nodes)
UnpacksTo g types t nodes out (Err f) = Unit {0}

abbrev pub PacksTo : List Constructor → ℕ → ℕ → List ℕ → List Node → Result ℕ Fault → Type 0
PacksTo g types t bytes out (Ok n) = (pack_of g types t (take n out) (length bytes) ≡ Ok (length bytes)) × (bytes_of g (take n out) ≡ bytes)
PacksTo g types t bytes out (Err f) = Unit {0}
