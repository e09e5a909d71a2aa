use Rattle.block_decoder.specs.Numbers.{bounds_from, most_columns, most_lists, most_nodes}
use Rattle.column_runs.specs.Close.{least_misses}
use Rattle.program_tests.proofs.agreed_blocks.decided_at_degree_three.Goals as goal

pub returns-clause-nodes : goal.returns-clause-nodes
unfolding bounds_from least_misses most_columns most_lists most_nodes
returns-clause-nodes g c = c.decide.ensures.nodes
