use Rattle.std.proofs.Common.{length, subst, arith}
use Rattle.wire_frames.specs.Limits.{IsInRange}
use Rattle.query_rounds.specs.Plan.{params_of}
use Rattle.query_rounds.specs.Queries.{Queries}
use Rattle.query_rounds.proofs.Ranges.{range_of}
use Rattle.query_rounds.proofs.queries.Queries.params.Goals as goal

pub returns-clause-range : goal.returns-clause-range
returns-clause-range c =
    let are = c.self.invariant in
    subst (λ (q : Queries). IsInRange (params_of q.plan (length q.blocks) 0)) c.self.view_is
    (range_of c.self.inside.plan c.self.inside.blocks.now 0 are.plan are.blocks (omega arith))
