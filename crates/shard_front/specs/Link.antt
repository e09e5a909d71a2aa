-- What happens on the link to one shard.
use Rattle.std.specs.Prelude.{ℕ, ◌≡◌, ◌<◌, ◌≤◌, ◌⊎◌, List, length, take, Option, Some, None, IfSome}
use Rattle.port_trait.specs.World.{Cell}
use Rattle.port_trait.specs.Moves.{RoseOnce, took, gave, named, counted}

-- the link was opened by its address, took the whole frame, and handed out these bytes: the first that it held, up to
-- so many
pub record LinkAnswers (address frame : List ℕ) (most : ℕ) (bytes : List ℕ) (old new : Cell) : Type 0 where
  pub cell : new ≡ took (length bytes) (gave frame (named address old))
  pub short : length bytes ≤ most
  pub told : IfSome old.holds (λ held. bytes ≡ take most held)

-- a call failed that was to open the link
abbrev pub FailsToOpen : Cell → Cell → Type 0
FailsToOpen old new = new ≡ counted new.faults old

-- the link was opened once, took a proper prefix of the frame, and handed out nothing; and then a call failed
pub record FailsToTake (address frame : List ℕ) (old new : Cell) : Type 0 where
  pub n : ℕ
  pub proper : n < length frame
  pub cell : new ≡ counted new.faults (gave (take n frame) (named address old))

-- the link was opened once, took the whole frame, and handed out fewer bytes than a whole answer has; and then a call failed
pub record FailsToAnswer (address frame : List ℕ) (most : ℕ) (old new : Cell) : Type 0 where
  pub m : ℕ
  pub fewer : m < most
  pub held : IfSome old.holds (λ held. m ≤ length held)
  pub cell : new ≡ counted new.faults (took m (gave frame (named address old)))

-- a call on the link failed, and none came after it
pub record LinkBreaks (address frame : List ℕ) (most : ℕ) (old new : Cell) : Type 0 where
  pub how : FailsToOpen old new ⊎ FailsToTake address frame old new ⊎ FailsToAnswer address frame most old new
  pub rose : RoseOnce old.faults new.faults

-- a link was asked, and these are the bytes that it answered, or none where a call on it failed
abbrev pub LinkAsked : List ℕ → List ℕ → ℕ → Option (List ℕ) → Cell → Cell → Type 0
LinkAsked address frame most (Some bytes) old new = LinkAnswers address frame most bytes old new
LinkAsked address frame most None old new = LinkBreaks address frame most old new
