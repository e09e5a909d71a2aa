-- What a server serves.
use Rattle.std.specs.Prelude.{ℕ, ◌≡◌, List, length, ◌*◌}
use Rattle.block_matrix.specs.Database.{Database}
use Rattle.wire_frames.specs.Sizes.{answer_len}
use Rattle.serve_core.specs.Terms.{most_blocks_for, payload_len_for}
use Rattle.serve_core.specs.declared.terms.Terms.{Terms}

-- the database, the number of the scheme, and how many workers sum the rows
pub record Service : Type 0 where
  pub database : Database
  pub scheme : ℕ
  pub workers : ℕ

-- which queries it takes
abbrev pub terms_of : Service → Terms
terms_of service = record {
  scheme = service.scheme;
  rows = length service.database.rows;
  width = service.database.width;
}

-- the vectors are those of a query for so many blocks
abbrev pub HasVectors : Service → ℕ → List ℕ → Type 0
HasVectors service count vectors = length vectors ≡ payload_len_for (terms_of service) count

-- how many bytes the sums of its workers have for so many blocks: each worker has a row for each
abbrev pub sums_len_for : Service → ℕ → ℕ
sums_len_for service count = service.workers * (count * service.database.width)

-- how many they have at most
abbrev pub most_sums_for : Service → ℕ
most_sums_for service = sums_len_for service (most_blocks_for (terms_of service))

-- how many bytes the frame of an answer has for so many blocks
abbrev pub frame_len_for : Service → ℕ → ℕ
frame_len_for service count = answer_len count service.database.width

-- how many it has at most
abbrev pub most_frame_for : Service → ℕ
most_frame_for service = frame_len_for service (most_blocks_for (terms_of service))
