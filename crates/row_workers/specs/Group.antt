-- A group of queries, and what the rows of a matrix give to its sums.
use Rattle.std.specs.Prelude.{ℕ, ◌+◌, ◌*◌, List, length}
use Rattle.block_matrix.specs.Database.{Database}
use Rattle.row_workers.specs.RowSums.{AddsBelow, AddsSums}
use Rattle.row_workers.specs.Blocks.{laid_at, four_of}
use Rattle.row_workers.specs.declared.group.Group.{Group}

-- what row j gives to place p of the sums, query after query
abbrev pub group_gives : (List ℕ → Database → ℕ → ℕ → ℕ) → Group → ℕ → ℕ → ℕ
group_gives gives group = gives group.queries.now group.matrix.now

-- how many places these sums have
abbrev pub group_places : Group → ℕ
group_places group = group.count * group.matrix.now.width

-- what row j gives to place p of the sums in blocks of so many lanes
abbrev pub block_gives : ℕ → (List ℕ → Database → ℕ → ℕ → ℕ) → Group → ℕ → ℕ → ℕ
block_gives lanes gives group p =
    group_gives gives group (laid_at lanes group.matrix.now.width group.count p)

-- sums, of which f p j is what row j gives to place p, get row j and the three that follow each so
-- many rows after the one before
abbrev pub AddsFour : (ℕ → ℕ → ℕ) → ℕ → ℕ → List ℕ → List ℕ → Type 0
AddsFour f j apart old new = AddsBelow (λ p. four_of (f p) j apart) (length old) old new

-- they get the rows of four quarters, of so many rows each, from row `from` on
abbrev pub AddsQuarters : (ℕ → ℕ → ℕ) → ℕ → ℕ → List ℕ → List ℕ → Type 0
AddsQuarters f from quarter old new =
    AddsSums f (length old) from (from + 4 * quarter) old new

-- what row j gives to place c of the sums of query v
abbrev pub query_gives : (List ℕ → Database → ℕ → ℕ → ℕ) → Group → ℕ → ℕ → ℕ → ℕ
query_gives gives group v c = group_gives gives group (v * group.matrix.now.width + c)
