use Rattle.std.proofs.Common.{◌≡◌, ℕ, ◌-◌, Bool}
use Rattle.table.specs.Meaning.{first_unfair, Judged, record_at}
use Rattle.table.proofs.judge.all_fair.Given as goal

abbrev pub invariant-loop-i : goal.invariant-loop-i
invariant-loop-i g l =
    (fair : ℕ → Bool) → Judged (record_at g.R.Record.WIDTH g.R.Record.item l.records.bytes.now) (goal.F-post g l.is_fair) fair l.records.count
    → first_unfair fair l.start g.R.Record.WIDTH l.i-counter (l.records.count - l.i-counter) ≡ first_unfair fair l.start g.R.Record.WIDTH 0 l.records.count
