use Rattle.std.proofs.Common.{ap, slice_index}
use Rattle.gf256.specs.Field.{◌⊗◌}
use Rattle.server_product.specs.Runs.{term}
use Rattle.server_product.proofs.rows.scaled_row.Goals as goal

pub returns-clause-term : goal.returns-clause-term
unfolding term
returns-clause-term c = λ k. ap (λ row. slice_index c.args.q.now c.args.j ⊗ slice_index row k) c.row.ensures.is
