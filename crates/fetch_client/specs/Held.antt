-- What a server holds of a database that is kept in shares (Shamir 1979; Goldberg 2007).
use Rattle.std.specs.Prelude.{ℕ, zero, suc, List, [], length, slice_index_or}
use Rattle.block_matrix.specs.Database.{rows_of}
use Rattle.share_bytes.specs.Share.{share}
use Rattle.wire_frames.specs.Turns.{in_turn}

-- the block with this number: a row of the matrix
abbrev pub block_of : List (List ℕ) → ℕ → List ℕ
block_of matrix block = slice_index_or matrix block []

-- the bytes of a matrix, row after row
abbrev pub bytes_of : List (List ℕ) → List ℕ
bytes_of matrix = in_turn (length matrix) (block_of matrix)

-- the share of server i of a matrix with rows of s bytes, by these coins, in rows of as many bytes
abbrev pub share_rows : ℕ → List (List ℕ) → ℕ → List ℕ → ℕ → List (List ℕ)
share_rows tau matrix s share_coins i =
    rows_of s (length matrix) (share (bytes_of matrix) share_coins tau i)

-- what server i holds of a matrix with rows of s bytes: the whole of it where the degree of the sharing is 0, and else its
-- share by these coins
unfoldable pub held_by : ℕ → List (List ℕ) → ℕ → List ℕ → ℕ → List (List ℕ)
held_by zero matrix s share_coins i = matrix
held_by (suc tau) matrix s share_coins i = share_rows (suc tau) matrix s share_coins i

-- what the servers of a database hold: the matrix, whole where tau is 0, and else in shares of this degree by these coins
pub record Holding : Type 0 where
  pub tau : ℕ
  pub matrix : List (List ℕ)
  pub share_coins : List ℕ

-- this matrix, with this degree of the sharing and these coins
abbrev pub held_as : ℕ → List (List ℕ) → List ℕ → Holding
held_as tau matrix share_coins = record { tau = tau; matrix = matrix; share_coins = share_coins }
