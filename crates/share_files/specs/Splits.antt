-- What splitting a database into shares does.
use Rattle.std.specs.Prelude.{◌≡◌, ℕ, ◌+◌, ◌*◌, ◌<◌, List, [], ◌∷◌, length, slice_index_or, Result, Ok, Err}
use Rattle.port_trait.specs.World.{Cell, World}
use Rattle.port_trait.specs.Number.{COINS, share_file}
use Rattle.port_trait.specs.Moves.{Touches, gave, named}
use Rattle.port_trait.specs.Each.{Each, TouchesRange}
use Rattle.port_trait.specs.Touched.{One, From, TouchesOnly}
use Rattle.port_trait.specs.Files.{Unread, Unwritten}
use Rattle.port_trait.specs.Tossed.{Tossed, RunsOut}
use Rattle.port_trait.specs.declared.port.Failed.{Failed}
use Rattle.share_files.specs.Sharing.{Sharing, share_of}
use Rattle.share_files.specs.SplitPlan.{SplitPlan, share_names}
use Rattle.share_files.specs.declared.fault.SplitFault.{SplitFault}
use Rattle.share_files.specs.declared.fault.SplitFault.TheVariants.{CoinsFault, CoinsEnded, ShareFault, Memory}

-- what opening Coins by this name and taking so many coins answers
abbrev pub TakesCoins : List ℕ → ℕ → Result (Unit {0}) SplitFault → List ℕ → World → World → Type 0
TakesCoins name need (Ok _) coins old new = Tossed need coins (named name (old.at COINS)) (new.at COINS)
TakesCoins name need (Err CoinsFault) coins old new = Unread COINS name need old new
TakesCoins name need (Err (CoinsEnded taken)) coins old new = RunsOut need taken (named name (old.at COINS)) (new.at COINS)
TakesCoins name need (Err ShareFault) coins old new = ⊥
TakesCoins name need (Err Memory) coins old new = ⊥

-- the share of the server with index i + 1 is in its file, which was opened by its own of these names
abbrev pub IsShared : List (List ℕ) → Sharing → ℕ → Cell → Cell → Type 0
IsShared names sharing i old new =
    new ≡ gave (share_of sharing (i + 1)) (named (slice_index_or names i []) old)

-- the shares of the first n servers are in their files
abbrev pub SharesEach : List (List ℕ) → Sharing → ℕ → World → World → Type 0
SharesEach names sharing n old new = Each (IsShared names sharing) (share_file 1) n old new

-- the shares of some servers are in their files, that of the next can't be written whole, and those of later ones are
-- left alone
pub record SharesSome (names : List (List ℕ)) (sharing : Sharing) (old new : World) : Type 0 where
  pub done : ℕ
  pub fewer : done < length names
  pub whole : SharesEach names sharing done old new
  pub cut : Unwritten (share_file 1 + done) (slice_index_or names done []) (share_of sharing (done + 1)) old new
  pub later : (i : ℕ) → done < i → i < length names → new.at (share_file 1 + i) ≡ old.at (share_file 1 + i)

-- what writing the share of each server answers
abbrev pub WritesShares : List (List ℕ) → Sharing → Result (Unit {0}) Failed → World → World → Type 0
WritesShares names sharing (Ok _) old new = SharesEach names sharing (length names) old new
WritesShares names sharing (Err _) old new = SharesSome names sharing old new

-- the files of n shares alone are touched
abbrev pub TouchesFiles : ℕ → World → World → Type 0
TouchesFiles n old new = TouchesRange (share_file 1) n old new

-- the database is shared so, with these coins
abbrev pub sharing_by : SplitPlan → List ℕ → List ℕ → Sharing
sharing_by p bytes coins = record { bytes = bytes; coins = coins; tau = p.tau }

-- these coins were taken, tau for each byte
abbrev pub Tosses : SplitPlan → List ℕ → List ℕ → World → World → Type 0
Tosses p bytes coins old new = Tossed (length bytes * p.tau) coins (named p.coins (old.at COINS)) (new.at COINS)

-- the share of each server is in its file
pub record SplitsWhole (p : SplitPlan) (bytes : List ℕ) (old new : World) : Type 0 where
  pub coins : List ℕ
  pub tossed : Tosses p bytes coins old new
  pub shares : SharesEach (share_names p.into p.servers) (sharing_by p bytes coins) p.servers old new

-- those of some servers are, and the next can't be written whole
pub record SplitsPart (p : SplitPlan) (bytes : List ℕ) (old new : World) : Type 0 where
  pub coins : List ℕ
  pub tossed : Tosses p bytes coins old new
  pub shares : SharesSome (share_names p.into p.servers) (sharing_by p bytes coins) old new

-- what splitting these bytes answers, and what it did then. Without the coins no share's file is opened, and where memory
-- ran out nothing is touched
abbrev pub Splits : SplitPlan → List ℕ → Result (Unit {0}) SplitFault → World → World → Type 0
Splits p bytes (Ok _) old new = SplitsWhole p bytes old new
Splits p bytes (Err CoinsFault) old new = Unread COINS p.coins (length bytes * p.tau) old new × Touches COINS old new
Splits p bytes (Err (CoinsEnded taken)) old new =
    RunsOut (length bytes * p.tau) taken (named p.coins (old.at COINS)) (new.at COINS) × Touches COINS old new
Splits p bytes (Err ShareFault) old new = SplitsPart p bytes old new
Splits p bytes (Err Memory) old new = new ≡ old

-- Coins and the files of n shares alone are touched
abbrev pub TouchesShares : ℕ → World → World → Type 0
TouchesShares n old new = TouchesOnly (One COINS ∷ From (share_file 1) n ∷ []) old new
