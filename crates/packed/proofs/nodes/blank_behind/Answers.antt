use Rattle.std.proofs.Common.{◌≡◌, length, get_or, pos, w64, SFits, rules}
use Rattle.packed.proofs.Blanks.{blank-test, fit-four}
use Rattle.packed.proofs.nodes.blank_behind.Goals as goal

pub returns-clause-value : goal.returns-clause-value
returns-clause-value c =
    let zs = c.args.node.now.integers in
    let four : length c.args.node.now.integers ≡ 4 = search rules in
    let a : SFits w64 (get_or c.args.node.now.integers 0 (pos 0)) = search rules in
    let b : SFits w64 (get_or c.args.node.now.integers 1 (pos 0)) = search rules in
    let d : SFits w64 (get_or c.args.node.now.integers 2 (pos 0)) = search rules in
    let e : SFits w64 (get_or c.args.node.now.integers 3 (pos 0)) = search rules in
    blank-test c.args.k zs four (fit-four zs four a b d e)
