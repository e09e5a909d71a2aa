-- Files that are opened by their names, and can't be read or written whole.
use Rattle.std.specs.Prelude.{ℕ, ◌<◌, ◌≡◌, ◌⊎◌, List, length, take}
use Rattle.port_trait.specs.World.{World}
use Rattle.port_trait.specs.Moves.{RoseOnce, took, gave, named, counted}

-- a file can't be read: a call on its port failed, to open it by this name, or to take from it later, when fewer bytes
-- than this were taken
pub record Unread (p : ℕ) (name : List ℕ) (most : ℕ) (old new : World) : Type 0 where
  pub n : ℕ
  pub fewer : n < most
  pub cell : (new.at p ≡ counted (new.at p).faults (old.at p))
      ⊎ (new.at p ≡ counted (new.at p).faults (took n (named name (old.at p))))
  pub rose : RoseOnce (old.at p).faults (new.at p).faults

-- a file can't be written: a call on its port failed, to open it by this name or to give to it later, and it has taken
-- a proper prefix of these bytes
pub record Unwritten (p : ℕ) (name bytes : List ℕ) (old new : World) : Type 0 where
  pub n : ℕ
  pub proper : n < length bytes
  pub cell : (new.at p ≡ counted (new.at p).faults (old.at p))
      ⊎ (new.at p ≡ counted (new.at p).faults (gave (take n bytes) (named name (old.at p))))
  pub rose : RoseOnce (old.at p).faults (new.at p).faults
