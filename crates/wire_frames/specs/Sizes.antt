-- How many bytes frames, and the parts of frames and sessions, have.
use Rattle.std.specs.Prelude.{ℕ, ◌+◌, ◌*◌}
use Rattle.wire_frames.specs.declared.scheme.Scheme.{Scheme}
use Rattle.wire_frames.specs.declared.sizes.TheConstants.{FRAME_HEADER_LEN}
use Rattle.wire_frames.specs.Scheme.{payload_len}

-- a query in a scheme for so many blocks, of so many rows: the header, and a vector for each block
abbrev pub query_len : Scheme → ℕ → ℕ → ℕ
query_len scheme count rows = FRAME_HEADER_LEN + count * payload_len scheme rows

-- the answer of status 0 that holds so many rows of so many bytes: the header, and the rows
abbrev pub answer_len : ℕ → ℕ → ℕ
answer_len count width = FRAME_HEADER_LEN + count * width
