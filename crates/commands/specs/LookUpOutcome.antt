-- What `lookup` does to the outside, by the status that it ends with.
use Rattle.std.specs.Prelude.{◌≡◌, ◌⊎◌, ℕ, ◌+◌, ◌*◌, ◌%◌, ◌<◌, ◌≤◌, List, [], ◌∷◌, length, ⊤, Some, Result}
use Rattle.gf256.specs.Product.{IsMatrix}
use Rattle.port_trait.specs.World.{Cell, World}
use Rattle.port_trait.specs.Number.{OUTPUT, COINS, link}
use Rattle.port_trait.specs.Moves.{Fails, Touches, gave, named}
use Rattle.port_trait.specs.Whole.{FailsWithin}
use Rattle.port_trait.specs.Touched.{One, From, TouchesOnly}
use Rattle.wire_frames.specs.Answer.{answers}
use Rattle.query_rounds.specs.declared.plan.FetchPlan.{FetchPlan}
use Rattle.query_rounds.specs.declared.plan.FetchFault.{FetchFault}
use Rattle.query_rounds.specs.Plan.{need}
use Rattle.key_search.specs.Standing.{turns_of}
use Rattle.key_search.specs.Answers.{AreSortedByKey}
use Rattle.key_fetches.specs.KeyRequest.{KeyRequest, key_request}
use Rattle.key_fetches.specs.Listed.{Ended, end_among}
use Rattle.key_fetches.specs.Text.{end_text}
use Rattle.key_fetches.specs.Rounds.{Round}
use Rattle.key_fetches.specs.LookedUp.{LookUpShort, LookUpUnfinished, LookUpUnread, LookedUp, LooksUp}
use Rattle.commands.specs.HeldRow.{EnoughReply}
use Rattle.commands.specs.LookUpOrder.{LookUpOrder}
use Rattle.commands.specs.Table.{status_of_end}
use Rattle.commands.specs.Told.{NoneRose}
use Rattle.commands.specs.declared.status.Status.{Status}
use Rattle.commands.specs.declared.status.Status.TheVariants.{Usage, ReadFault, WriteFault, BadInput, DoorFault, ChildFault, Memory}
use Rattle.commands.specs.declared.status.Bad.TheVariants.{Session, EmptyFile, TooBig, CoinsEnded}

-- Coins, opened by its name
abbrev pub opened_coins : LookUpOrder → World → Cell
opened_coins o old = named o.coins (old.at COINS)

-- what the order asks for, and of whom
abbrev pub key_request_by : LookUpOrder → KeyRequest
key_request_by o = key_request o.plan o.key o.addresses

-- in each fetch, h of the records or more are what servers that hold the matrix reply to the frames that they were sent, and
-- 2 h > k + t + tau, for k usable answers
abbrev pub EnoughReplyInEach : FetchPlan → List (List ℕ) → List Round → Type 0
EnoughReplyInEach p matrix [] = ⊤
EnoughReplyInEach p matrix (round ∷ rounds) =
    EnoughReply p (round.row ∷ []) round.coins matrix [] round.session
    × (length (answers round.session) + p.t + p.tau < 2 * p.h) × EnoughReplyInEach p matrix rounds

-- a fetch was made in each turn, with the coins that Coins gave, and this is what they came to: where enough servers reply
-- in each from one matrix, whose rows ascend by their keys, the row with the key, or that there is none
pub record LookUpSettled (o : LookUpOrder) (ended : Ended) (old new : World) : Type 0 where
  pub looked : LookedUp (key_request_by o) ended (opened_coins o old) old new
  pub held : (matrix : List (List ℕ)) → IsMatrix matrix o.plan.r o.plan.s → AreSortedByKey o.key matrix
      → EnoughReplyInEach o.plan matrix looked.rounds → ended ≡ end_among o.key matrix

-- what a look-up answers, and what it did then, once Coins was opened
abbrev pub LooksUpBy : LookUpOrder → Result Ended FetchFault → World → World → Type 0
LooksUpBy o result old new = LooksUp (key_request_by o) result (old.at COINS) old new

-- what the look-up came to is written whole
pub record LookUpReported (o : LookUpOrder) (status : Status) (old new : World) : Type 0 where
  pub ended : Ended
  pub settled : LookUpSettled o ended old new
  pub status_is : status ≡ status_of_end ended
  pub written : new.at OUTPUT ≡ gave (end_text ended) (old.at OUTPUT)

-- Output has taken a proper prefix of its text
pub record LookUpCutShort (o : LookUpOrder) (old new : World) : Type 0 where
  pub ended : Ended
  pub settled : LookUpSettled o ended old new
  pub cut : FailsWithin OUTPUT (end_text ended) old new

-- Coins can't be opened, and nothing else was touched; or a call on it failed later, before all turns
pub record LookUpUnreadable (o : LookUpOrder) (old new : World) : Type 0 where
  pub part : (Fails COINS old new × Touches COINS old new)
      ⊎ LookUpUnread (key_request_by o) (opened_coins o old) old new
  pub output : new.at OUTPUT ≡ old.at OUTPUT

-- there are too few coins for all turns
pub record LookUpRefused (o : LookUpOrder) (taken : ℕ) (old new : World) : Type 0 where
  pub short : LookUpShort (key_request_by o) taken (opened_coins o old) old new
  pub output : new.at OUTPUT ≡ old.at OUTPUT

-- memory ran out, before all turns or after them; nothing is written
pub record LookUpStopped (o : LookUpOrder) (old new : World) : Type 0 where
  pub part : LookUpUnfinished (key_request_by o) (opened_coins o old) old new
  pub output : new.at OUTPUT ≡ old.at OUTPUT

-- what `lookup` did, by its status
abbrev pub LookUpEnds : LookUpOrder → Status → World → World → Type 0
LookUpEnds o Usage old new = ⊥
LookUpEnds o ReadFault old new = LookUpUnreadable o old new
LookUpEnds o WriteFault old new = LookUpCutShort o old new
LookUpEnds o (BadInput (Session place)) old new = ⊥
LookUpEnds o (BadInput EmptyFile) old new = ⊥
LookUpEnds o (BadInput (TooBig limit)) old new = ⊥
LookUpEnds o (BadInput (CoinsEnded taken)) old new = LookUpRefused o taken old new
LookUpEnds o DoorFault old new = ⊥
LookUpEnds o ChildFault old new = ⊥
LookUpEnds o Memory old new = LookUpStopped o old new
LookUpEnds o status old new = LookUpReported o status old new

-- Output, Coins and the links to so many servers alone are touched
abbrev pub TouchesLookUp : ℕ → World → World → Type 0
TouchesLookUp n old new = TouchesOnly (One OUTPUT ∷ One COINS ∷ From (link 1) n ∷ []) old new

-- what `lookup` did, and that it did no more
pub record LookUpOutcome (o : LookUpOrder) (status : Status) (old new : World) : Type 0 where
  pub ends : LookUpEnds o status old new
  pub others : TouchesLookUp o.plan.n old new

-- its text is written whole, and the status is its own; or a call on Output failed
abbrev pub EndTold : Ended → Status → World → World → Type 0
EndTold ended status old new = ((status ≡ status_of_end ended) × (new.at OUTPUT ≡ gave (end_text ended) (old.at OUTPUT)))
    ⊎ ((status ≡ WriteFault) × FailsWithin OUTPUT (end_text ended) old new)

-- how many coins all turns take
abbrev pub coins_needed : LookUpOrder → ℕ
coins_needed o = turns_of o.plan.r * need o.plan 1

-- the ports that `lookup` uses but the links
abbrev pub read_and_written : List ℕ
read_and_written = OUTPUT ∷ COINS ∷ []

-- what `lookup` promises where no call failed but on links, but that memory may run out: where Coins holds enough for all
-- turns, a fetch was made in each, and the text of what they came to is written whole; where it holds fewer, that is said,
-- with the number of those that were left for the fetch that met the end
pub record LookUpPromise (o : LookUpOrder) (status : Status) (old new : World) : Type 0 where
  pub reported : (held : List ℕ) → (old.at COINS).holds ≡ Some held → coins_needed o ≤ length held
      → NoneRose read_and_written old new → LookUpReported o status old new ⊎ (status ≡ Memory)
  pub too_few_coins : (held : List ℕ) → (old.at COINS).holds ≡ Some held → length held < coins_needed o
      → NoneRose read_and_written old new
      → (status ≡ BadInput (CoinsEnded (length held % need o.plan 1))) ⊎ (status ≡ Memory)
