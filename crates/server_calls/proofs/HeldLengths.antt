-- Sums over rows that a caller holds.
use Rattle.std.proofs.Common.{◌≡◌, ◌∙◌, ℕ, ◌<◌, List, [], length, ap}
use Rattle.std.specs.Prelude.{slice_index_or}
use Rattle.block_matrix.specs.Database.{rows_of}
use Rattle.block_matrix.proofs.Rows.{get_or-rows_of, length-row_at}
use Rattle.server_calls.specs.Held.{AreRows}

-- a row has the width
pub length-row : (bytes : List ℕ) (count width j : ℕ) → AreRows bytes count width → j < count
    → length (slice_index_or (rows_of width count bytes) j []) ≡ width
length-row bytes count width j are lt = ap length (get_or-rows_of width count bytes j lt) ∙ length-row_at width count bytes j are.whole lt
