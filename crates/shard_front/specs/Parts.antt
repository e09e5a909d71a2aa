-- What each shard is asked of a query.
use Rattle.std.specs.Prelude.{ℕ, List, [], ◌++◌, take, drop, slice_index_or}
use Rattle.wire_frames.specs.declared.header.QueryHeader.{QueryHeader}
use Rattle.wire_frames.specs.declared.scheme.Scheme.TheVariants.{Shamir}
use Rattle.wire_frames.specs.Header.{query_header}
use Rattle.wire_frames.specs.Sizes.{answer_len, query_len}
use Rattle.wire_frames.specs.Turns.{in_turn, piece}
use Rattle.shard_front.specs.Spread.{Spread, first_row, rows_in}
use Rattle.shard_front.specs.RelayedQuery.{RelayedQuery}

-- the header of the query to the shard at place i: the guest's, for the rows of the shard
abbrev pub header_to : Spread → QueryHeader → ℕ → QueryHeader
header_to spread query i = record query { r = rows_in spread i }

-- the slice of a vector for that shard: the bytes for its rows
abbrev pub slice_for : Spread → ℕ → List ℕ → List ℕ
slice_for spread i vector = take (rows_in spread i) (drop (first_row spread i) vector)

-- the slice of vector v of a payload, counted from 0
abbrev pub slice_at : Spread → ℕ → List ℕ → ℕ → List ℕ
slice_at spread i vectors v = slice_for spread i (piece spread.rows v vectors)

-- the payload of the query to that shard: of each vector the slice
abbrev pub slices_for : Spread → ℕ → ℕ → List ℕ → List ℕ
slices_for spread i count vectors = in_turn count (slice_at spread i vectors)

-- how many bytes the query to that shard has
abbrev pub part_len : Spread → ℕ → ℕ → ℕ
part_len spread count i = query_len Shamir count (rows_in spread i)

-- the query to that shard, of a query with this header and this payload
unfoldable pub part_for : Spread → QueryHeader → List ℕ → ℕ → List ℕ
part_for spread query vectors i =
    query_header (header_to spread query i) ++ slices_for spread i query.count vectors

-- the part of a query for one shard: the place of the shard, counted from 0, and the address at which it stands
pub record Part : Type 0 where
  pub spread : Spread
  pub query : QueryHeader
  pub vectors : List ℕ
  pub place : ℕ
  pub address : List ℕ

-- the part of a query that is relayed, for the shard at place i
abbrev pub part_at : RelayedQuery → ℕ → Part
part_at relay i = record {
  spread = relay.spread;
  query = relay.header;
  vectors = relay.vectors;
  place = i;
  address = slice_index_or relay.addresses i [];
}

-- the header of a part
abbrev pub part_header : Part → QueryHeader
part_header part = header_to part.spread part.query part.place

-- its bytes
abbrev pub part_frame : Part → List ℕ
part_frame part = part_for part.spread part.query part.vectors part.place

-- how many bytes a whole answer to it has
abbrev pub part_answer_len : Part → ℕ
part_answer_len part = answer_len part.query.count part.spread.width
