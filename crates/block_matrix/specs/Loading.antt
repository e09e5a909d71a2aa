-- What reading the file of a database does to its port.
use Rattle.std.specs.Prelude.{◌≡◌, ℕ, ◌+◌, ◌<◌, ◌≤◌, List, [], length, take, drop, IfSome, Vec, Result, Ok, Err}
use Rattle.std.specs.declared.alloc.Global.{Global}
use Rattle.port_trait.specs.World.{Cell, World}
use Rattle.port_trait.specs.Number.{DATABASE}
use Rattle.port_trait.specs.Moves.{took}
use Rattle.port_trait.specs.Whole.{Fills, Reads, FailsShort}
use Rattle.port_trait.specs.declared.moves.Filled.{Filled}
use Rattle.block_matrix.specs.Database.{Database, limit}
use Rattle.block_matrix.specs.Loaded.{IsFileOf}
use Rattle.block_matrix.specs.declared.matrix.LoadFault.{LoadFault}
use Rattle.block_matrix.specs.declared.matrix.LoadFault.TheVariants.{EmptyFile, TooBig, ReadFault, Memory}

-- some bytes were put behind those that were there
pub record Longer (most : ℕ) (old new : List ℕ) : Type 0 where
  pub kept : take (length old) new ≡ old
  pub more : length old < length new
  pub within : length new ≤ most

-- the bytes were made longer, or memory ran out
abbrev pub Lengthens : ℕ → List ℕ → List ℕ → Result (Unit {0}) LoadFault → Type 0
Lengthens most old new (Ok x) = Longer most old new
Lengthens most old new (Err EmptyFile) = ⊥
Lengthens most old new (Err (TooBig n)) = ⊥
Lengthens most old new (Err ReadFault) = ⊥
Lengthens most old new (Err Memory) = Unit {0}

-- what follows the first `filled` bytes was read from the port, or a call on it failed
abbrev pub FillsFrom : ℕ → Filled → List ℕ → List ℕ → World → World → Type 0
FillsFrom filled result before after old new =
    Fills DATABASE result (drop filled before) (drop filled after) old new

-- the port was read to its end, or so many bytes of it
pub record ReadsUpTo (most : ℕ) (read : List ℕ) (old new : World) : Type 0 where
  pub reads : Reads DATABASE read old new
  pub within : length read ≤ most
  pub ended : length read < most → IfSome (old.at DATABASE).holds (λ held. read ≡ held)

-- at most so many bytes were handed out, and nothing else changed
pub record Stopped (most : ℕ) (old new : Cell) : Type 0 where
  pub n : ℕ
  pub few : n ≤ most
  pub cell : new ≡ took n old

-- the port was read, or a call on it failed before it was, or memory ran out
abbrev pub ReadsOr : ℕ → Result (Vec ℕ Global) LoadFault → World → World → Type 0
ReadsOr most (Ok bytes) old new = ReadsUpTo most bytes.items old new
ReadsOr most (Err EmptyFile) old new = ⊥
ReadsOr most (Err (TooBig n)) old new = ⊥
ReadsOr most (Err ReadFault) old new = FailsShort DATABASE most old new
ReadsOr most (Err Memory) old new = Stopped most (old.at DATABASE) (new.at DATABASE)

-- how many bytes of a file are asked for: one more than a database of that width may have
abbrev pub asked_for : ℕ → ℕ
asked_for width = limit width + 1

-- the port was read to its end: its bytes are the file of the database
pub record Holds (width : ℕ) (m : Database) (old new : Cell) : Type 0 where
  pub read : List ℕ
  pub cell : new ≡ took (length read) old
  pub file : IsFileOf width read m
  pub all : IfSome old.holds (λ held. read ≡ held)

-- the port held no bytes, and nothing changed
pub record HoldsNone (old new : Cell) : Type 0 where
  pub cell : new ≡ old
  pub none : IfSome old.holds (λ held. held ≡ [])

-- the port held more bytes than a database of that width may have, and one more of them was taken
pub record HoldsMore (width : ℕ) (old new : Cell) : Type 0 where
  pub cell : new ≡ took (asked_for width) old
  pub more : IfSome old.holds (λ held. limit width < length held)

-- the database in the file, or why there is none. Where a call fails, fewer bytes were taken than were asked for
abbrev pub Loads : ℕ → Result Database LoadFault → World → World → Type 0
Loads width (Ok m) old new = Holds width m (old.at DATABASE) (new.at DATABASE)
Loads width (Err EmptyFile) old new = HoldsNone (old.at DATABASE) (new.at DATABASE)
Loads width (Err (TooBig most)) old new =
    (most ≡ limit width) × HoldsMore width (old.at DATABASE) (new.at DATABASE)
Loads width (Err ReadFault) old new = FailsShort DATABASE (asked_for width) old new
Loads width (Err Memory) old new = Stopped (asked_for width) (old.at DATABASE) (new.at DATABASE)
