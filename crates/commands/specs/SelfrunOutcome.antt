-- What `selfrun` does to the outside, by the status that it ends with.
use Rattle.std.specs.Prelude.{◌≡◌, ◌⊎◌, ℕ, ◌+◌, ◌*◌, ◌<◌, ◌≤◌, List, [], ◌∷◌, ◌++◌, Contains, codes, decimal}
use Rattle.std.specs.List.{concat}
use Rattle.port_trait.specs.World.{World}
use Rattle.port_trait.specs.Number.{OUTPUT}
use Rattle.port_trait.specs.Moves.{Touches, gave}
use Rattle.port_trait.specs.Whole.{FailsWithin}
use Rattle.column_lists.specs.Numbers.{cost}
use Rattle.block_decoder.specs.Numbers.{bound_of}
use Rattle.block_decoder.specs.Text.{text}
use Rattle.block_decoder.specs.declared.verdict.Verdict.{Verdict}
use Rattle.block_decoder.specs.declared.verdict.Verdict.TheVariants.{Listed}
use Rattle.drawn_workload.specs.Judged.{IsDecidedOn}
use Rattle.drawn_workload.specs.Workload.{asked_row, honest}
use Rattle.drawn_workload.specs.declared.order.Workload.{Workload}
use Rattle.commands.specs.Table.{status_of}
use Rattle.commands.specs.Told.{NoneRose}
use Rattle.commands.specs.declared.status.Status.{Status}
use Rattle.commands.specs.declared.status.Status.TheVariants.{One, NoBlock, Several, TooFew, TooWeak, TooCostly, WriteFault, Memory}

-- where h servers or more are honest: where blocks are listed, the row that is asked for is among them, and where 2 h >
-- n + t it is listed alone
pub record FindsAskedRow (w : Workload) (verdict : Verdict) : Type 0 where
  pub listed : w.agree ≤ honest w → (blocks : List (List ℕ)) → verdict ≡ Listed blocks → Contains blocks (asked_row w)
  pub alone : w.agree ≤ honest w → w.servers + w.degree < 2 * w.agree → verdict ≡ Listed (asked_row w ∷ [])

-- the verdict on the answers of all servers
pub record IsVerdictOn (w : Workload) (verdict : Verdict) : Type 0 where
  pub decided : IsDecidedOn w verdict
  pub found : FindsAskedRow w verdict

-- the agreement is strong enough to list blocks
abbrev pub IsStrong : Workload → Type 0
IsStrong w = w.servers * w.degree < w.agree * w.agree

-- the numbers of the servers, each behind its name: all n answer, so that k is n
abbrev pub words_of_servers : Workload → List (List ℕ)
words_of_servers w =
    codes "selfrun n " ∷ decimal w.servers ∷ codes " k " ∷ decimal w.servers
    ∷ codes " t " ∷ decimal w.degree ∷ codes " h " ∷ decimal w.agree ∷ []

-- how many of them lie, and two numbers of the decoder
abbrev pub words_of_decoding : Workload → ℕ → ℕ → List (List ℕ)
words_of_decoding w cost bound =
    codes " liars " ∷ decimal w.liars ∷ codes " cost " ∷ decimal cost ∷ codes " bound " ∷ decimal bound ∷ codes "\n" ∷ []

-- the line of the numbers
abbrev pub numbers_line : Workload → ℕ → ℕ → List ℕ
numbers_line w cost bound = concat (words_of_servers w ++ words_of_decoding w cost bound)

-- that of a workload, by the cost and the bound of its numbers
abbrev pub line_of_numbers : Workload → List ℕ
line_of_numbers w = numbers_line w (cost w.servers w.degree w.agree) (bound_of w.servers w.degree w.agree)

-- what follows the text of the verdict: that line where blocks are listed, or none, and nothing else
abbrev pub ending : Workload → Verdict → List ℕ
ending w (Listed blocks) = line_of_numbers w
ending w verdict = []

-- all that is written
abbrev pub report_of : Workload → Verdict → List ℕ
report_of w verdict = text verdict ++ ending w verdict

-- the verdict on the answers is written whole, with what follows it
pub record SelfrunReported (w : Workload) (status : Status) (old new : World) : Type 0 where
  pub verdict : Verdict
  pub judged : IsVerdictOn w verdict
  pub status_is : status ≡ status_of verdict
  pub written : new.at OUTPUT ≡ gave (report_of w verdict) (old.at OUTPUT)

-- a call on Output failed, which has taken a proper prefix of that
pub record SelfrunCutShort (w : Workload) (old new : World) : Type 0 where
  pub verdict : Verdict
  pub judged : IsVerdictOn w verdict
  pub written : FailsWithin OUTPUT (report_of w verdict) old new

-- what `selfrun` did, by its status
abbrev pub SelfrunEnds : Workload → Status → World → World → Type 0
SelfrunEnds w One old new = SelfrunReported w One old new
SelfrunEnds w NoBlock old new = SelfrunReported w NoBlock old new
SelfrunEnds w Several old new = SelfrunReported w Several old new
SelfrunEnds w (TooFew k h) old new = SelfrunReported w (TooFew k h) old new
SelfrunEnds w (TooWeak k t h) old new = SelfrunReported w (TooWeak k t h) old new
SelfrunEnds w (TooCostly equations) old new = SelfrunReported w (TooCostly equations) old new
SelfrunEnds w WriteFault old new = SelfrunCutShort w old new
SelfrunEnds w Memory old new = new ≡ old
SelfrunEnds w status old new = ⊥

-- what `selfrun` did, and that it did no more
pub record SelfrunOutcome (w : Workload) (status : Status) (old new : World) : Type 0 where
  pub ends : SelfrunEnds w status old new
  pub others : Touches OUTPUT old new

-- what `selfrun` promises where no call on Output failed, but that memory may run out: the text of the verdict on the
-- workload is written whole, with the line of the numbers after a listing
pub record SelfrunPromise (w : Workload) (status : Status) (old new : World) : Type 0 where
  pub reported : NoneRose (OUTPUT ∷ []) old new → SelfrunReported w status old new ⊎ (status ≡ Memory)
