use Rattle.linear_solve.proofs.Places.{zero_matrix}
use Rattle.linear_solve.proofs.table.Table.new.Goals as goal

pub returns : goal.returns
returns c = zero_matrix c.args.rows c.args.cols _ _ (c.in_ok-vec.ensures.items_if_clones_equal (λ y e. e))
