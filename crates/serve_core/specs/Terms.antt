-- Which queries are taken, and how long they are.
use Rattle.std.specs.Prelude.{ℕ, min, ◌*◌, ◌/◌}
use Rattle.quantity_limits.specs.declared.TheConstants.{MOST_BLOCKS, MOST_WIDTH}
use Rattle.wire_frames.specs.Scheme.{scheme_of, payload_len}
use Rattle.wire_frames.specs.Sizes.{query_len}
use Rattle.serve_core.specs.declared.terms.Terms.{Terms}

-- the queries of this scheme, for a database of so many rows of so many bytes
abbrev pub terms_for : ℕ → ℕ → ℕ → Terms
terms_for scheme rows width = record { scheme = scheme; rows = rows; width = width }

-- how many bytes such a query has for each block
abbrev pub vector_len_for : Terms → ℕ
vector_len_for terms = payload_len (scheme_of terms.scheme) terms.rows

-- how many bytes its payload has for so many blocks
abbrev pub payload_len_for : Terms → ℕ → ℕ
payload_len_for terms count = count * vector_len_for terms

-- how many bytes the whole query has
abbrev pub query_len_for : Terms → ℕ → ℕ
query_len_for terms count = query_len (scheme_of terms.scheme) count terms.rows

-- the most blocks that it asks for: their rows have at most MOST_WIDTH bytes together
unfoldable pub most_blocks_for : Terms → ℕ
most_blocks_for terms = min MOST_BLOCKS (MOST_WIDTH / terms.width)

-- how many bytes its payload has at most
abbrev pub most_payload_for : Terms → ℕ
most_payload_for terms = payload_len_for terms (most_blocks_for terms)
