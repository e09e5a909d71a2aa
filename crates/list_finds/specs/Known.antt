-- A list as a client knows it, and the rows of keys.
use Rattle.std.specs.Prelude.{ℕ, ◌≤◌, List}
use Rattle.key_table.specs.Digest.{digest_of, row_of}
use Rattle.key_table.specs.Table.{Making}
use Rattle.key_table.specs.declared.TheConstants.{LEAST_DIGEST, MOST_DIGEST, MOST_VALUE}
use Rattle.list_finds.specs.declared.known_list.KnownList.{KnownList}

-- its digests have as many bytes as digests may have, and its values no more than values may have
pub record IsKnown (list : KnownList) : Type 0 where
  pub least : LEAST_DIGEST ≤ list.size
  pub size : list.size ≤ MOST_DIGEST
  pub most : list.most ≤ MOST_VALUE

-- what each row of its table is made by, where that has so many rows
abbrev pub making_of : KnownList → ℕ → Making
making_of list rows = record { tag = list.tag; size = list.size; most = list.most; rows = rows }

-- the digest of a key
abbrev pub digest_in : KnownList → List ℕ → List ℕ
digest_in list key = digest_of list.salt list.size key

-- the row that a key belongs to, in a table of so many rows
abbrev pub row_in : KnownList → ℕ → List ℕ → ℕ
row_in list rows key = row_of rows (digest_in list key)
