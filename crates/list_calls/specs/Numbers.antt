-- The numbers of a list, as its catalog has them.
use Rattle.std.specs.Prelude.{◌≤◌}
use Rattle.quantity_limits.specs.declared.TheConstants.{MOST_ROWS}
use Rattle.key_table.specs.declared.TheConstants.{LEAST_DIGEST, MOST_DIGEST, MOST_VALUE}
use Rattle.list_calls.specs.declared.numbers.ListNumbers.{ListNumbers}

-- its digests and values have as many bytes as they may have, and its table as many rows
pub record IsList (n : ListNumbers) : Type 0 where
  pub least : LEAST_DIGEST ≤ n.digest_bytes
  pub size : n.digest_bytes ≤ MOST_DIGEST
  pub most : n.value_bytes ≤ MOST_VALUE
  pub some_rows : 1 ≤ n.rows
  pub few_rows : n.rows ≤ MOST_ROWS
