-- Worked examples: leaves of one integer and nodes of two subtrees, one type.
use Rattle.std.specs.Prelude.{◌≡◌, ℕ, false, List, [], ◌∷◌, ◌++◌, take, pos, negsuc, is_some, Ok, Err}
use Rattle.packed.specs.declared.constructor.Constructor.{Constructor}
use Rattle.packed.specs.declared.constructor.Fields.{Fields}
use Rattle.packed.specs.declared.fault.Reason.TheVariants as reason
use Rattle.packed.specs.declared.node.Node.{Node}
use Rattle.packed.specs.Faults.{number_of}
use Rattle.packed.specs.Forms.{limit_of, numbered}
use Rattle.packed.specs.Packing.{bytes_of, nodes_of, refusal, pack_of, unpack_of}
use Rattle.packed.specs.Laws.{Finite}

-- constructor 0 is a leaf, constructor 1 a node
abbrev pub leaf_and_node : List Fields
leaf_and_node = record { integers = 1; subtrees = 0; types = 255 ∷ 255 ∷ 255 ∷ 255 ∷ [] } ∷ record { integers = 0; subtrees = 2; types = 0 ∷ 0 ∷ 255 ∷ 255 ∷ [] } ∷ []

abbrev pub forms : List Constructor
forms = numbered 0 (2 ∷ []) leaf_and_node

abbrev pub minus_one : Node
minus_one = record { constructor = 0; integers = negsuc 0 ∷ pos 0 ∷ pos 0 ∷ pos 0 ∷ [] }

abbrev pub minus_one_bytes : List ℕ
minus_one_bytes = 0 ∷ 255 ∷ 255 ∷ 255 ∷ 255 ∷ 255 ∷ 255 ∷ 255 ∷ 255 ∷ []

-- a node over leaves of 258 and 2: low byte first, and the subtrees in order
abbrev pub pair : List Node
pair = record { constructor = 1; integers = pos 0 ∷ pos 0 ∷ pos 0 ∷ pos 0 ∷ [] } ∷ record { constructor = 0; integers = pos 258 ∷ pos 0 ∷ pos 0 ∷ pos 0 ∷ [] } ∷ record { constructor = 0; integers = pos 2 ∷ pos 0 ∷ pos 0 ∷ pos 0 ∷ [] } ∷ []

abbrev pub pair_bytes : List ℕ
pair_bytes = 1 ∷ 0 ∷ 2 ∷ 1 ∷ 0 ∷ 0 ∷ 0 ∷ 0 ∷ 0 ∷ 0 ∷ 0 ∷ 2 ∷ 0 ∷ 0 ∷ 0 ∷ 0 ∷ 0 ∷ 0 ∷ 0 ∷ []

pub record Worked : Type 0 where
  -- the description keeps every limit
  pub described : is_some (limit_of (2 ∷ []) leaf_and_node) ≡ false
  -- a leaf of −1 packs as 00 and eight bytes ff, and unpacks again
  pub packs : pack_of forms 1 0 (minus_one ∷ []) 9 ≡ Ok 9
  pub bytes : bytes_of forms (minus_one ∷ []) ≡ minus_one_bytes
  pub unpacks : unpack_of forms 1 0 minus_one_bytes 1 ≡ Ok 1
  pub nodes : nodes_of forms 0 minus_one_bytes ≡ minus_one ∷ []
  -- a leaf cut to 8 bytes ends too soon, at 8; with a tenth byte it goes on too long, at 9
  pub cut : unpack_of forms 1 0 (take 8 minus_one_bytes) 1 ≡ Err (refusal reason.NotOneTree 8)
  pub extended : unpack_of forms 1 0 (minus_one_bytes ++ 7 ∷ []) 1 ≡ Err (refusal reason.NotOneTree 9)
  -- a node and its leaves, both ways; without its last leaf, and with an integer where it has none
  pub pair_packs : pack_of forms 1 0 pair 19 ≡ Ok 19
  pub bytes_of_pair : bytes_of forms pair ≡ pair_bytes
  pub pair_unpacks : unpack_of forms 1 0 pair_bytes 3 ≡ Ok 3
  pub pair_nodes : nodes_of forms 0 pair_bytes ≡ pair
  pub pair_cut : pack_of forms 1 0 (take 2 pair) 19 ≡ Err (refusal reason.NotOneTree 2)
  pub crowded : pack_of forms 1 0 (record { constructor = 1; integers = pos 5 ∷ pos 0 ∷ pos 0 ∷ pos 0 ∷ [] } ∷ []) 19 ≡ Err (refusal reason.NotOneTree 0)
  -- the numbers that clients see
  pub numbers : (number_of reason.Kind ≡ 32) × (number_of reason.NotOneTree ≡ 43) × (number_of reason.ShortBuffer ≡ 53)
  -- a type that there is not, and a buffer that is too short
  pub unknown : unpack_of forms 1 1 minus_one_bytes 1 ≡ Err (refusal reason.Kind 0)
  pub short : unpack_of forms 1 0 minus_one_bytes 0 ≡ Err (refusal reason.ShortBuffer 0)
  -- the type has a finite tree, so that refusals here name the least place
  pub finite : Finite forms 1
