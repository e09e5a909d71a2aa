-- A query that is relayed to shards.
use Rattle.std.specs.Prelude.{ℕ, ◌≡◌, ◌*◌, List, length}
use Rattle.wire_frames.specs.declared.header.QueryHeader.{QueryHeader}
use Rattle.serve_core.specs.Taking.{IsGood, payload_in}
use Rattle.shard_front.specs.Spread.{IsSpread, Spread, shards, terms_of}

-- over which shards it is relayed, at which addresses, its header, and its vectors, one behind another
pub record RelayedQuery : Type 0 where
  pub spread : Spread
  pub addresses : List (List ℕ)
  pub header : QueryHeader
  pub vectors : List ℕ

-- the query with this header and these vectors, over these shards at these addresses
abbrev pub relayed_over : Spread → List (List ℕ) → QueryHeader → List ℕ → RelayedQuery
relayed_over spread addresses header vectors =
    record { spread = spread; addresses = addresses; header = header; vectors = vectors }

-- the query with this header whose payload stands at the start of a slice
abbrev pub taken_from : Spread → List (List ℕ) → QueryHeader → List ℕ → RelayedQuery
taken_from spread addresses header slice =
    relayed_over spread addresses header (payload_in (terms_of spread) header slice)

-- a good query for all rows, with a payload that has its vectors whole, and an address for each shard
pub record IsRelayable (over : Spread) (many : ℕ) (query : QueryHeader) (payload : List ℕ) : Type 0 where
  pub spread : IsSpread over
  pub addresses : many ≡ shards over
  pub good : IsGood (terms_of over) query
  pub vectors : length payload ≡ query.count * over.rows
