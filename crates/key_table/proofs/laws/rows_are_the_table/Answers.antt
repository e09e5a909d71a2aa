use Rattle.key_table.proofs.RowParts.{rows_are_table}
use Rattle.key_table.proofs.laws.rows_are_the_table.Goals as goal

pub returns : goal.returns
returns c = rows_are_table
