-- What `split` does to the outside, by the status that it ends with.
use Rattle.std.specs.Prelude.{◌≡◌, ◌⊎◌, ℕ, ◌*◌, ◌<◌, ◌≤◌, List, [], ◌∷◌, length, Some}
use Rattle.std.specs.Int.{div_ceil}
use Rattle.port_trait.specs.World.{World}
use Rattle.port_trait.specs.Number.{OUTPUT, DATABASE, COINS, share_file}
use Rattle.port_trait.specs.Moves.{Touches, named}
use Rattle.port_trait.specs.Touched.{One, From, TouchesOnly}
use Rattle.port_trait.specs.Files.{Unread}
use Rattle.port_trait.specs.Tossed.{RunsOut}
use Rattle.block_matrix.specs.Database.{Database}
use Rattle.block_matrix.specs.Loading.{asked_for}
use Rattle.share_files.specs.Limit.{shared_limit}
use Rattle.commands.specs.Told.{NoneRose, NoShareRose}
use Rattle.commands.specs.SplitOrder.{SplitOrder}
use Rattle.commands.specs.ServeSteps.{HasBegun, HasNoBytes}
use Rattle.commands.specs.SplitSteps.{HasTooManyToShare, LoadedToShare, SharesAll, SharesNotAll, coins_to_split}
use Rattle.commands.specs.declared.status.Status.{Status}
use Rattle.commands.specs.declared.status.Status.TheVariants.{One, ReadFault, WriteFault, BadInput, Memory}
use Rattle.commands.specs.declared.status.Bad.TheVariants.{EmptyFile, TooBig, CoinsEnded}

-- the database was loaded, each server's share of it is in its own file, and that is written whole
pub record SplitAll (o : SplitOrder) (old new : World) : Type 0 where
  pub database : Database
  pub loaded : LoadedToShare o database old new
  pub shared : SharesAll o database old new

-- the database was loaded, but a share can't be written whole, or what says that all are
pub record SplitCutShort (o : SplitOrder) (old new : World) : Type 0 where
  pub database : Database
  pub loaded : LoadedToShare o database old new
  pub cut : SharesNotAll o database old new

-- Database and Coins alone are touched: nothing is written, and no share's file is opened
abbrev pub TouchesRead : World → World → Type 0
TouchesRead old new = TouchesOnly (One DATABASE ∷ One COINS ∷ []) old new

-- the database was loaded, and the coins can't be read
pub record CoinsUnread (o : SplitOrder) (old new : World) : Type 0 where
  pub database : Database
  pub loaded : LoadedToShare o database old new
  pub unread : Unread COINS o.coins (coins_to_split o database) old new
  pub others : TouchesRead old new

-- the database was loaded, and there are only so many coins, fewer than it takes
pub record CoinsRunOut (o : SplitOrder) (taken : ℕ) (old new : World) : Type 0 where
  pub database : Database
  pub loaded : LoadedToShare o database old new
  pub short : RunsOut (coins_to_split o database) taken (named o.coins (old.at COINS)) (new.at COINS)
  pub others : TouchesRead old new

-- what `split` did, by its status
abbrev pub SplitEnds : SplitOrder → Status → World → World → Type 0
SplitEnds o One old new = SplitAll o old new
SplitEnds o ReadFault old new =
    (Unread DATABASE o.database (asked_for o.width) old new × Touches DATABASE old new) ⊎ CoinsUnread o old new
SplitEnds o WriteFault old new = SplitCutShort o old new
SplitEnds o (BadInput EmptyFile) old new = HasNoBytes o.database old new × Touches DATABASE old new
SplitEnds o (BadInput (TooBig most)) old new = HasTooManyToShare o most old new × Touches DATABASE old new
SplitEnds o (BadInput (CoinsEnded taken)) old new = CoinsRunOut o taken old new
SplitEnds o Memory old new = HasBegun o.database o.width old new × Touches DATABASE old new
SplitEnds o status old new = ⊥

-- Output, Database, Coins and the files of n shares alone are touched
abbrev pub TouchesSplit : ℕ → World → World → Type 0
TouchesSplit n old new = TouchesOnly (One OUTPUT ∷ One DATABASE ∷ One COINS ∷ From (share_file 1) n ∷ []) old new

-- what `split` did, and that it did no more
pub record SplitOutcome (o : SplitOrder) (status : Status) (old new : World) : Type 0 where
  pub ends : SplitEnds o status old new
  pub others : TouchesSplit o.servers old new

-- the ports that `split` uses but the files of the shares
abbrev pub files : List ℕ
files = OUTPUT ∷ DATABASE ∷ COINS ∷ []

-- how many coins a file of so many bytes takes: tau for each byte of its rows, the last of which is filled up
abbrev pub coins_of_file : SplitOrder → ℕ → ℕ
coins_of_file o size = div_ceil size o.width * o.width * o.tau

-- what `split` promises where no call failed, but that memory may run out: where Database holds a database that can be
-- shared, and Coins holds enough, each server's share is in its file, and that is written whole; where there is no such
-- database, or there are too few coins, that is said
pub record SplitPromise (o : SplitOrder) (status : Status) (old new : World) : Type 0 where
  pub split : (bytes coins : List ℕ) → (old.at DATABASE).holds ≡ Some bytes → 0 < length bytes
      → length bytes ≤ shared_limit o.width o.tau → (old.at COINS).holds ≡ Some coins
      → coins_of_file o (length bytes) ≤ length coins → NoneRose files old new → NoShareRose o.servers old new
      → ((status ≡ One) × SplitAll o old new) ⊎ (status ≡ Memory)
  pub empty_file : (old.at DATABASE).holds ≡ Some [] → NoneRose files old new → NoShareRose o.servers old new
      → (status ≡ BadInput EmptyFile) ⊎ (status ≡ Memory)
  pub too_big : (bytes : List ℕ) → (old.at DATABASE).holds ≡ Some bytes → shared_limit o.width o.tau < length bytes
      → NoneRose files old new → NoShareRose o.servers old new
      → (status ≡ BadInput (TooBig (shared_limit o.width o.tau))) ⊎ (status ≡ Memory)
  pub too_few_coins : (bytes coins : List ℕ) → (old.at DATABASE).holds ≡ Some bytes → 0 < length bytes
      → length bytes ≤ shared_limit o.width o.tau → (old.at COINS).holds ≡ Some coins
      → length coins < coins_of_file o (length bytes) → NoneRose files old new → NoShareRose o.servers old new
      → (status ≡ BadInput (CoinsEnded (length coins))) ⊎ (status ≡ Memory)
