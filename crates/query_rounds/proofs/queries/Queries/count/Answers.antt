use Rattle.std.proofs.Common.{length, ap}
use Rattle.query_rounds.specs.Queries.{Queries}
use Rattle.query_rounds.proofs.queries.Queries.count.Goals as goal

pub returns : goal.returns
returns c = record { is = ap (λ (q : Queries). length q.blocks) c.self.view_is; some = c.self.invariant.blocks.some; few = c.self.invariant.blocks.few }
