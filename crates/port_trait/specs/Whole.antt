-- What whole reads and whole writes do.
use Rattle.std.specs.Prelude.{ℕ, ◌<◌, ◌≤◌, ◌≡◌, List, length, take, IfSome}
use Rattle.port_trait.specs.World.{World}
use Rattle.port_trait.specs.Moves.{Hands, RoseOnce, took, gave, counted}
use Rattle.port_trait.specs.declared.moves.Filled.{Filled}
use Rattle.port_trait.specs.declared.moves.Filled.TheVariants.{Full, Ended, Failed}

-- the port ended after n bytes, fewer than were asked for
pub record Ends (p n : ℕ) (before after : List ℕ) (old new : World) : Type 0 where
  pub fewer : n < length before
  pub hands : Hands p n before after old new
  pub all : IfSome (old.at p).holds (λ h. length h ≡ n)

-- n bytes were handed out, and then a call failed
pub record FailsAfter (p : ℕ) (old new : World) : Type 0 where
  pub n : ℕ
  pub cell : new.at p ≡ counted (new.at p).faults (took n (old.at p))
  pub held : IfSome (old.at p).holds (λ h. n ≤ length h)
  pub rose : RoseOnce (old.at p).faults (new.at p).faults

-- the same, and those bytes are fewer than this
pub record FailsShort (p most : ℕ) (old new : World) : Type 0 where
  pub after : FailsAfter p old new
  pub fewer : after.n < most

-- what a whole read does, by how far it came
abbrev pub Fills : ℕ → Filled → List ℕ → List ℕ → World → World → Type 0
Fills p Full before after old new = Hands p (length before) before after old new
Fills p (Ended n) before after old new = Ends p n before after old new
Fills p Failed before after old new = FailsShort p (length before) old new

-- a proper prefix of the piece was taken, and then a call failed
pub record FailsWithin (p : ℕ) (piece : List ℕ) (old new : World) : Type 0 where
  pub n : ℕ
  pub proper : n < length piece
  pub cell : new.at p ≡ counted (new.at p).faults (gave (take n piece) (old.at p))
  pub rose : RoseOnce (old.at p).faults (new.at p).faults

-- the prefix of what was held
pub record IsPrefix (read held : List ℕ) : Type 0 where
  pub there : length read ≤ length held
  pub bytes : read ≡ take (length read) held

-- the bytes read so far are handed out
pub record Reads (p : ℕ) (read : List ℕ) (old new : World) : Type 0 where
  pub cell : new.at p ≡ took (length read) (old.at p)
  pub told : IfSome (old.at p).holds (IsPrefix read)
