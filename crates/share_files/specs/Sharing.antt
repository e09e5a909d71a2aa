-- What is shared, and what is done with the share of one server.
use Rattle.std.specs.Prelude.{◌≡◌, ℕ, ◌*◌, ◌<◌, ◌≤◌, List, length}
use Rattle.quantity_limits.specs.declared.TheConstants.{MOST_DEGREE}
use Rattle.port_trait.specs.World.{World}
use Rattle.port_trait.specs.Number.{share_file}
use Rattle.port_trait.specs.Moves.{gave, named}
use Rattle.port_trait.specs.Whole.{FailsWithin}
use Rattle.port_trait.specs.Files.{Unwritten}
use Rattle.share_bytes.specs.Share.{share}

-- the bytes that are shared, the coins for them, and how many there are for each byte: the degree of its polynomial
pub record Sharing : Type 0 where
  pub bytes : List ℕ
  pub coins : List ℕ
  pub tau : ℕ

-- there are some bytes, a degree that they may be shared with, and as many coins as they take
pub record IsShareable (sharing : Sharing) : Type 0 where
  pub some : 0 < length sharing.bytes
  pub some_degree : 1 ≤ sharing.tau
  pub few_degrees : sharing.tau ≤ MOST_DEGREE
  pub enough : length sharing.coins ≡ length sharing.bytes * sharing.tau

-- the share of the server with this index
abbrev pub share_of : Sharing → ℕ → List ℕ
share_of sharing index = share sharing.bytes sharing.coins sharing.tau index

-- the file of that server took its whole share
abbrev pub GivesShare : Sharing → ℕ → World → World → Type 0
GivesShare sharing index old new =
    new.at (share_file index) ≡ gave (share_of sharing index) (old.at (share_file index))

-- it took a proper prefix of it, and then a call failed
abbrev pub CutsOff : Sharing → ℕ → World → World → Type 0
CutsOff sharing index old new = FailsWithin (share_file index) (share_of sharing index) old new

-- it was opened by this name, and took its whole share
abbrev pub WritesShare : Sharing → ℕ → List ℕ → World → World → Type 0
WritesShare sharing index name old new =
    new.at (share_file index) ≡ gave (share_of sharing index) (named name (old.at (share_file index)))

-- it can't be written whole by this name
abbrev pub LeavesShare : Sharing → ℕ → List ℕ → World → World → Type 0
LeavesShare sharing index name old new = Unwritten (share_file index) name (share_of sharing index) old new
