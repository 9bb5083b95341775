-- Nodes that are written as text.
use Rattle.std.specs.Prelude.{ℕ, cond, ◌&&◌, List, [], ◌∷◌, length, ℤ, Some, None, Option, ◌==◌, slice_index}
use Rattle.packed.specs.declared.node.Node.{Node}
use Rattle.packed.specs.Forms.{either}
use Rattle.words.specs.Text.{head_of, tail_of, pieces, each_of}
use Rattle.words.specs.Numbers.{byte_of, integer_of}

-- four integers, with colons (58) between them
abbrev pub four_spelled : List ℕ → Option (List ℤ)
four_spelled text =
    either (tail_of 58 text) None (λ second.
    either (tail_of 58 second) None (λ third.
    either (tail_of 58 third) None (λ fourth.
    either (integer_of (head_of 58 text)) None (λ a.
    either (integer_of (head_of 58 second)) None (λ b.
    either (integer_of (head_of 58 third)) None (λ c.
    either (integer_of fourth) None (λ d. Some (a ∷ b ∷ c ∷ d ∷ []))))))))

-- a node: its constructor's number, and its integers
abbrev pub node_spelled : List ℕ → Option Node
node_spelled text =
    either (tail_of 58 text) None (λ rest.
    either (byte_of (head_of 58 text)) None (λ k.
    either (four_spelled rest) None (λ zs. Some (record { constructor = k; integers = zs }))))

-- nodes, with commas (44) between them
abbrev pub nodes_spelled : List ℕ → Option (List Node)
nodes_spelled text = each_of node_spelled (pieces 44 text)

-- the nodes that a word of a command writes: a hyphen (45) for none
abbrev pub nodes_written : List ℕ → Option (List Node)
nodes_written word = cond (length word == 1 && slice_index word 0 == 45) (Some []) (nodes_spelled word)
