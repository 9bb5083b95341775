use Rattle.std.proofs.Common.{◌≡◌, ℕ, ◌-◌, ◌<◌}
use Rattle.checker.specs.Contexts.{entered_names}
use Rattle.checker.proofs.names.enter_names.Given as goal

abbrev pub invariant-loop-i : goal.invariant-loop-i
invariant-loop-i g l = (v : ℕ → _) → ((i : ℕ) (x : _) → i < l.count → goal.F-post g l.entry i x → x ≡ v i) → entered_names l.table l.first v l.i (l.count - l.i) ≡ entered_names l.initial.table l.first v 0 l.count
