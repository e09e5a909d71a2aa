-- The steps of `split`, and what each does to the outside.
use Rattle.std.specs.Prelude.{◌≡◌, ◌⊎◌, ℕ, ◌*◌, List, [], ◌∷◌, length, codes, decimal}
use Rattle.std.specs.List.{concat}
use Rattle.port_trait.specs.World.{World}
use Rattle.port_trait.specs.Number.{OUTPUT, DATABASE, COINS, share_file}
use Rattle.port_trait.specs.Moves.{Touches, gave, named}
use Rattle.port_trait.specs.Whole.{FailsWithin}
use Rattle.port_trait.specs.Touched.{One, From, TouchesOnly}
use Rattle.port_trait.specs.Files.{Unread}
use Rattle.port_trait.specs.Tossed.{RunsOut}
use Rattle.block_matrix.specs.Database.{Database}
use Rattle.share_files.specs.Limit.{HoldsFew, HoldsTooMany, shared_limit}
use Rattle.share_files.specs.Splits.{SplitsPart, SplitsWhole}
use Rattle.commands.specs.SplitOrder.{SplitOrder, plan_to_split}
use Rattle.commands.specs.declared.status.Status.{Status}
use Rattle.commands.specs.declared.status.Status.TheVariants.{One, ReadFault, WriteFault, BadInput, Memory}
use Rattle.commands.specs.declared.status.Bad.TheVariants.{CoinsEnded}

-- the numbers of servers, of rows and of their bytes
abbrev pub numbers_text : ℕ → ℕ → ℕ → List ℕ
numbers_text servers rows width =
    concat (codes "split " ∷ decimal servers ∷ codes " " ∷ decimal rows ∷ codes " " ∷ decimal width ∷ codes "\n" ∷ [])

-- what is written once all shares are
abbrev pub split_text : SplitOrder → Database → List ℕ
split_text o m = numbers_text o.servers (length m.rows) o.width

-- the bytes of all rows, one after the other, which are what is shared
abbrev pub cells_of : Database → List ℕ
cells_of m = concat m.rows

-- how many coins that takes
abbrev pub coins_to_split : SplitOrder → Database → ℕ
coins_to_split o m = length (cells_of m) * o.tau

-- Database was opened by its name and read to its end, and this is the database in it, which isn't too big to be shared
abbrev pub LoadedToShare : SplitOrder → Database → World → World → Type 0
LoadedToShare o m old new = HoldsFew o.width o.tau m (named o.database (old.at DATABASE)) (new.at DATABASE)

-- it has more bytes than a database that is shared may have, which is the limit
abbrev pub HasTooManyToShare : SplitOrder → ℕ → World → World → Type 0
HasTooManyToShare o most old new = (most ≡ shared_limit o.width o.tau)
    × HoldsTooMany o.width o.tau (named o.database (old.at DATABASE)) (new.at DATABASE)

-- each server's share is in its file, and that is written
pub record SharesAll (o : SplitOrder) (m : Database) (old new : World) : Type 0 where
  pub shares : SplitsWhole (plan_to_split o) (cells_of m) old new
  pub written : new.at OUTPUT ≡ gave (split_text o m) (old.at OUTPUT)

-- the shares of some servers are in their files, that of the next can't be written whole, those of later ones are left
-- alone, and nothing is written; or each is in its file, and Output has taken only a prefix of what says so
abbrev pub SharesNotAll : SplitOrder → Database → World → World → Type 0
SharesNotAll o m old new = (SplitsPart (plan_to_split o) (cells_of m) old new × (new.at OUTPUT ≡ old.at OUTPUT))
    ⊎ (SplitsWhole (plan_to_split o) (cells_of m) old new × FailsWithin OUTPUT (split_text o m) old new)

-- the text is written whole, or a call on Output failed
abbrev pub Says : List ℕ → Status → World → World → Type 0
Says text status old new = ((status ≡ One) × (new.at OUTPUT ≡ gave text (old.at OUTPUT)))
    ⊎ ((status ≡ WriteFault) × FailsWithin OUTPUT text old new)

-- sharing a database, by the status that the run ends with
abbrev pub SharesOut : SplitOrder → Database → Status → World → World → Type 0
SharesOut o m One old new = SharesAll o m old new
SharesOut o m ReadFault old new = Unread COINS o.coins (coins_to_split o m) old new × Touches COINS old new
SharesOut o m WriteFault old new = SharesNotAll o m old new
SharesOut o m (BadInput (CoinsEnded taken)) old new =
    RunsOut (coins_to_split o m) taken (named o.coins (old.at COINS)) (new.at COINS) × Touches COINS old new
SharesOut o m Memory old new = new ≡ old
SharesOut o m status old new = ⊥

-- Output, Coins and the files of n shares alone are touched
abbrev pub TouchesSharing : ℕ → World → World → Type 0
TouchesSharing n old new = TouchesOnly (One OUTPUT ∷ One COINS ∷ From (share_file 1) n ∷ []) old new
