-- The digest of a key, and the row that it belongs to.
use Rattle.std.specs.Prelude.{ℕ, ◌*◌, ◌/◌, ◌^◌, List, ◌++◌, take}
use Rattle.std.specs.Int.{w64, from_be_bytes}
use Rattle.sha2.specs.Sha256.{sha256}

-- the digest of a key: the first bytes of the SHA-256 of the salt and the key
abbrev pub digest_of : List ℕ → ℕ → List ℕ → List ℕ
digest_of salt size key = take size (sha256 (salt ++ key))

-- the number that the first eight bytes of a digest spell, highest first
unfoldable pub number_of : List ℕ → ℕ
number_of digest = from_be_bytes w64 digest

-- the row of a digest among so many rows: as far down the table as its number is among all numbers
abbrev pub row_of : ℕ → List ℕ → ℕ
row_of rows digest = number_of digest * rows / 2 ^ 64
