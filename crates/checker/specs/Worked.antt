-- Worked examples: programs over leaves of one integer and nodes of two subtrees, and what the check says of them.
use Rattle.std.specs.Prelude.{◌≡◌, ℕ, List, [], ◌∷◌, pos, Ok, Err}
use Rattle.packed.specs.declared.fault.Reason.TheVariants as reason
use Rattle.packed.specs.Worked.{forms}
use Rattle.table.specs.declared.function.Function.{Function}
use Rattle.table.specs.declared.row.Row.{Row}
use Rattle.table.specs.declared.row.Row.TheVariants as row
use Rattle.packed.specs.Faults.{found}
use Rattle.checker.specs.Conditions.{Program}
use Rattle.checker.specs.Verdict.{verdict_of}

abbrev pub program : List Function → List Row → Program
program functions rows = record { forms = forms; functions = functions; rows = rows }

-- a function without a parameter, and one with a tree
abbrev pub no_parameter : ℕ → Function
no_parameter result = record { parameters = 0; kinds = 255 ∷ 255 ∷ 255 ∷ 255 ∷ []; result = result; first = 0 }

abbrev pub one_tree : ℕ → Function
one_tree result = record { parameters = 1; kinds = 0 ∷ 255 ∷ 255 ∷ 255 ∷ []; result = result; first = 0 }

abbrev pub leaf : ℕ → ℕ → Row
leaf l x = row.Construct 0 l x 255 255 255 255 255 255 255

abbrev pub node : ℕ → ℕ → ℕ → Row
node l x y = row.Construct 1 l x y 255 255 255 255 255 255

-- two leaves and a node, whose last row has its trees in this order
abbrev pub two_leaves : ℕ → ℕ → Program
two_leaves x y = program (no_parameter 0 ∷ [])
    (row.Past 1 0 0
    ∷ row.Let 0 254 255 3 ∷ row.Number (pos 1)
    ∷ row.Let 1 0 1 5 ∷ leaf 1 0
    ∷ row.After 2 1 0
    ∷ row.Let 2 254 255 8 ∷ row.Number (pos 2)
    ∷ row.Let 3 0 2 10 ∷ leaf 2 2
    ∷ node 0 x y
    ∷ [])

-- the sum of a tree's leaves, by calls of main itself
abbrev pub sum_of_leaves : Program
sum_of_leaves = program (one_tree 254 ∷ [])
    (row.Case 0
    ∷ row.Branch 0 1 0 3 ∷ row.Variable 1
    ∷ row.Branch 1 1 2 0
    ∷ row.Let 3 254 255 6 ∷ row.Call 0 255 1 255 255 255
    ∷ row.Let 4 254 255 8 ∷ row.Call 0 255 2 255 255 255
    ∷ row.Sum 3 4
    ∷ [])

-- a leaf in a region of its own; what the test's arms give
abbrev pub region_and_test : Row → Program
region_and_test other = program (no_parameter 254 ∷ [])
    (row.Region 0 9
    ∷ row.Start 1 0
    ∷ row.Let 0 254 255 4 ∷ row.Number (pos 7)
    ∷ row.Let 1 0 1 6 ∷ leaf 1 0
    ∷ row.Test 0 0 8 ∷ row.Variable 0 ∷ other
    ∷ [])

pub record Worked : Type 0 where
  pub two_leaves_pass : verdict_of (two_leaves 1 3) ≡ Ok tt
  -- with 3 before 1 the first tree is not past the head
  pub swapped : verdict_of (two_leaves 3 1) ≡ Err (found reason.Unwritten 3 10)
  pub sum : verdict_of sum_of_leaves ≡ Ok tt
  pub region : verdict_of (region_and_test (row.Number (pos 0))) ≡ Ok tt
  -- an arm that gives the tree differs from one that gives an integer
  pub arms : verdict_of (region_and_test (row.Variable 1)) ≡ Err (found reason.ArmsDiffer 3 6)
