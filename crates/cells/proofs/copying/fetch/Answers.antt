use Rattle.std.proofs.Common.{length, arith}
use Rattle.std.proofs.lemmas.List.FromFn.{fill_by_all}
use Rattle.cells.specs.Calls.{byte_at}
use Rattle.cells.proofs.copying.fetch.Goals as goal

pub returns-clause-after : goal.returns-clause-after
returns-clause-after g c =
    fill_by_all (byte_at (g.S.Store.meaning c.args.store.now) c.args.region) _ (length c.args.back.now) 0 (omega arith) (λ k h. c.loop-i.invariant k (omega arith))
