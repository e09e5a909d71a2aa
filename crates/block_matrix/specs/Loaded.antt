-- What comes of the bytes of a file.
use Rattle.std.specs.Prelude.{◌≡◌, ℕ, ◌-◌, ◌<◌, ◌≤◌, List, [], ◌++◌, length, replicate, Result, Ok, Err}
use Rattle.block_matrix.specs.Database.{Database, limit, database}
use Rattle.block_matrix.specs.declared.matrix.LoadFault.{LoadFault}
use Rattle.block_matrix.specs.declared.matrix.LoadFault.TheVariants.{EmptyFile, TooBig, ReadFault, Memory}

-- the bytes are the file of a database
pub record IsFileOf (width : ℕ) (bytes : List ℕ) (m : Database) : Type 0 where
  pub some : 0 < length bytes
  pub few : length bytes ≤ limit width
  pub is : m ≡ database width bytes

-- the database of these bytes, or why there is none
abbrev pub Parses : ℕ → List ℕ → Result Database LoadFault → Type 0
Parses width bytes (Ok m) = IsFileOf width bytes m
Parses width bytes (Err EmptyFile) = bytes ≡ []
Parses width bytes (Err (TooBig most)) = (most ≡ limit width) × (limit width < length bytes)
Parses width bytes (Err ReadFault) = ⊥
Parses width bytes (Err Memory) = Unit {0}

-- zeros were put behind the bytes until they were so many
abbrev pub FillsUp : ℕ → List ℕ → List ℕ → Result (Unit {0}) LoadFault → Type 0
FillsUp whole old new (Ok x) = new ≡ old ++ replicate (whole - length old) 0
FillsUp whole old new (Err EmptyFile) = ⊥
FillsUp whole old new (Err (TooBig most)) = ⊥
FillsUp whole old new (Err ReadFault) = ⊥
FillsUp whole old new (Err Memory) = Unit {0}
