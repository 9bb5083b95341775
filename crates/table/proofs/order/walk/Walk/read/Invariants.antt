use Rattle.std.proofs.Common.{◌≡◌, drop}
use Rattle.table.specs.Order.{bodies}
use Rattle.table.specs.Walks.{left}
use Rattle.table.proofs.order.walk.Walk.read.Given as goal

abbrev pub invariant-loop-first : goal.invariant-loop-first
invariant-loop-first l = left l.fn.self (bodies l.firsts) ≡ left l.self (bodies (drop l.first-index l.firsts))
