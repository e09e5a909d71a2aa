-- How large a database in shares may be.
use Rattle.std.specs.Prelude.{◌≡◌, ℕ, ◌*◌, ◌/◌, ◌<◌, ◌≤◌, min, length, IfSome, Result, Ok, Err}
use Rattle.port_trait.specs.World.{Cell, World}
use Rattle.port_trait.specs.Number.{DATABASE}
use Rattle.port_trait.specs.Moves.{took}
use Rattle.port_trait.specs.Whole.{FailsShort}
use Rattle.quantity_limits.specs.declared.TheConstants.{MOST_ROWS, MOST_CELLS}
use Rattle.block_matrix.specs.Database.{Database}
use Rattle.block_matrix.specs.Loading.{Holds, HoldsNone, Stopped, asked_for}
use Rattle.block_matrix.specs.declared.matrix.LoadFault.{LoadFault}
use Rattle.block_matrix.specs.declared.matrix.LoadFault.TheVariants.{EmptyFile, TooBig, ReadFault, Memory}

-- the most bytes of a database with rows of this width that is shared with degree tau: no more coins are taken than a
-- database may have cells
unfoldable pub shared_limit : ℕ → ℕ → ℕ
shared_limit width tau = width * min MOST_ROWS (MOST_CELLS / (width * tau))

-- the port was read to its end, and what it held isn't too big to be shared
pub record HoldsFew (width tau : ℕ) (m : Database) (old new : Cell) : Type 0 where
  pub holds : Holds width m old new
  pub few : length holds.read ≤ shared_limit width tau

-- the port held more bytes than a database that is shared may have
pub record HoldsTooMany (width tau : ℕ) (old new : Cell) : Type 0 where
  pub n : ℕ
  pub few : n ≤ asked_for width
  pub cell : new ≡ took n old
  pub more : IfSome old.holds (λ held. shared_limit width tau < length held)

-- the database in the file, or why there is none that can be shared. Where a call fails, fewer bytes were taken than
-- were asked for
abbrev pub LoadsFew : ℕ → ℕ → Result Database LoadFault → World → World → Type 0
LoadsFew width tau (Ok m) old new = HoldsFew width tau m (old.at DATABASE) (new.at DATABASE)
LoadsFew width tau (Err EmptyFile) old new = HoldsNone (old.at DATABASE) (new.at DATABASE)
LoadsFew width tau (Err (TooBig most)) old new =
    (most ≡ shared_limit width tau) × HoldsTooMany width tau (old.at DATABASE) (new.at DATABASE)
LoadsFew width tau (Err ReadFault) old new = FailsShort DATABASE (asked_for width) old new
LoadsFew width tau (Err Memory) old new = Stopped (asked_for width) (old.at DATABASE) (new.at DATABASE)
