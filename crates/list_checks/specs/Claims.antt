-- What is said of the database of a list.
use Rattle.std.specs.Prelude.{ℕ, ◌*◌, ◌≤◌}
use Rattle.quantity_limits.specs.Shape.{IsShape}
use Rattle.key_table.specs.Table.{Making}
use Rattle.key_table.specs.declared.TheConstants.{LEAST_DIGEST, MOST_DIGEST, MOST_VALUE}
use Rattle.list_checks.specs.declared.claim.Claim.{Claim}

-- its digests and values have as many bytes as they may have, and its rows are as many and as wide as those of a database
pub record IsClaim (claim : Claim) : Type 0 where
  pub least : LEAST_DIGEST ≤ claim.size
  pub size : claim.size ≤ MOST_DIGEST
  pub most : claim.most ≤ MOST_VALUE
  pub shape : IsShape claim.rows claim.width

-- what each row of the list's table is made by
abbrev pub making_of : Claim → Making
making_of claim = record { tag = claim.tag; size = claim.size; most = claim.most; rows = claim.rows }

-- how many bytes all rows have
abbrev pub size_of : Claim → ℕ
size_of claim = claim.rows * claim.width
