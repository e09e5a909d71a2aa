-- What is promised of `split` where no call failed.
use Rattle.std.proofs.Common.{◌≡◌, ◌∙◌, ◌⊎◌, inl, inr, ℕ, ◌*◌, ◌<◌, ◌≤◌, List, [], length, take, refl, sym, ap, arith}
use Rattle.std.specs.Prelude.{Some}
use Rattle.std.specs.Int.{div_ceil}
use Rattle.std.proofs.lemmas.List.{length-take}
use Rattle.port_trait.specs.World.{World}
use Rattle.port_trait.specs.Number.{COINS, DATABASE}
use Rattle.port_trait.proofs.Rises.{once_rose}
use Rattle.block_matrix.specs.Database.{Database}
use Rattle.share_files.specs.Limit.{shared_limit}
use Rattle.share_files.proofs.Limits.{length-cells}
use Rattle.share_files.proofs.Shares.{length-share_names}
use Rattle.port_trait.proofs.Cells.{at_told}
use Rattle.commands.specs.Told.{NoneRose, NoShareRose}
use Rattle.commands.specs.SplitOrder.{SplitOrder}
use Rattle.commands.specs.SplitSteps.{LoadedToShare, coins_to_split}
use Rattle.commands.specs.SplitOutcome.{CoinsRunOut, SplitAll, SplitEnds, SplitPromise, coins_of_file, files}
use Rattle.commands.specs.declared.status.Status.{Status}
use Rattle.commands.specs.declared.status.Status.TheVariants.{One, ReadFault, WriteFault, BadInput, Memory}
use Rattle.commands.specs.declared.status.Bad.TheVariants.{EmptyFile, TooBig, CoinsEnded}

-- a database that can be shared was loaded: this is how many bytes its file has, and how many coins it takes
pub record IsSized (o : SplitOrder) (m : Database) (size : ℕ) : Type 0 where
  pub some : 0 < size
  pub few : size ≤ shared_limit o.width o.tau
  pub coins : coins_to_split o m ≡ coins_of_file o size

module _ (o : SplitOrder) (old new : World) (wide : 0 < o.width) (none : NoneRose files old new)
    (written : NoShareRose o.servers old new) (bytes : List ℕ) (held : (old.at DATABASE).holds ≡ Some bytes) where
  -- no call on a port that is read failed
  no_read_fault : SplitEnds o ReadFault old new → ⊥
  no_read_fault (inl unread) = none.1.0 (once_rose _ _ unread.0.rose)
  no_read_fault (inr later) = none.1.1.0 (once_rose _ _ later.unread.rose)

  -- nor one on a port that is written
  no_write_fault : SplitEnds o WriteFault old new → ⊥
  no_write_fault said = elim said.cut [
    | inl part ↦
        let size = length-share_names o.into o.servers in
        let fewer = part.0.shares.fewer in
        written part.0.shares.done (omega (arith, size, fewer)) (once_rose _ _ part.0.shares.cut.rose)
    | inr mute ↦ none.0 (once_rose _ _ mute.1.rose)
  ]

  -- what was loaded is what Database held
  is_sized : (m : Database) → LoadedToShare o m old new → IsSized o m (length bytes)
  is_sized m l =
      let same = at_told (λ (h : List ℕ). l.holds.read ≡ h) (old.at DATABASE).holds bytes held l.holds.all in
      let size = ap length same in
      record {
        some = omega (arith, size, l.holds.file.some);
        few = omega (arith, size, l.few);
        coins = ap (λ (n : ℕ). n * o.tau) (length-cells o.width l.holds.read m wide l.holds.file.is ∙ ap (λ (n : ℕ). div_ceil n o.width * o.width) size);
      }

  -- it isn't empty
  not_empty : 0 < length bytes → SplitEnds o (BadInput EmptyFile) old new → ⊥
  not_empty some said =
      let empty = at_told (λ (h : List ℕ). h ≡ []) (old.at DATABASE).holds bytes held said.0.none in
      omega (arith, ap length empty, some)

  -- nor too big
  not_too_big : (most : ℕ) → length bytes ≤ shared_limit o.width o.tau → SplitEnds o (BadInput (TooBig most)) old new → ⊥
  not_too_big most few said =
      let more = at_told (λ (h : List ℕ). shared_limit o.width o.tau < length h) (old.at DATABASE).holds bytes held said.0.1.more in
      omega (arith, more, few)

  -- an empty file is refused
  empty_file : (status : Status) → length bytes ≡ 0 → SplitEnds o status old new → (status ≡ BadInput EmptyFile) ⊎ (status ≡ Memory)
  empty_file One size said = let l = is_sized said.database said.loaded in absurd (omega (arith, l.some, size))
  empty_file ReadFault size said = absurd (no_read_fault said)
  empty_file WriteFault size said = absurd (no_write_fault said)
  empty_file (BadInput EmptyFile) size said = inl refl
  empty_file (BadInput (TooBig most)) size said = absurd (not_too_big most (omega (arith, size)) said)
  empty_file (BadInput (CoinsEnded taken)) size said = let l = is_sized said.database said.loaded in absurd (omega (arith, l.some, size))
  empty_file Memory size said = inr refl
  empty_file status size said = absurd said

  -- and so is one that is too big
  too_big : (status : Status) → shared_limit o.width o.tau < length bytes → SplitEnds o status old new → (status ≡ BadInput (TooBig (shared_limit o.width o.tau))) ⊎ (status ≡ Memory)
  too_big One more said = let l = is_sized said.database said.loaded in absurd (omega (arith, l.few, more))
  too_big ReadFault more said = absurd (no_read_fault said)
  too_big WriteFault more said = absurd (no_write_fault said)
  too_big (BadInput EmptyFile) more said = absurd (not_empty (omega (arith, more)) said)
  too_big (BadInput (TooBig most)) more said = inl (ap (λ (n : ℕ). BadInput (TooBig n)) said.0.0)
  too_big (BadInput (CoinsEnded taken)) more said = let l = is_sized said.database said.loaded in absurd (omega (arith, l.few, more))
  too_big Memory more said = inr refl
  too_big status more said = absurd said

  module _ (some : 0 < length bytes) (few : length bytes ≤ shared_limit o.width o.tau) (coins : List ℕ) (tossed : (old.at COINS).holds ≡ Some coins) where
    -- they don't run out
    not_short : (taken : ℕ) → coins_of_file o (length bytes) ≤ length coins → CoinsRunOut o taken old new → ⊥
    not_short taken enough said =
        let all = at_told (λ (h : List ℕ). length h ≡ taken) (old.at COINS).holds coins tossed said.short.all in
        let need = (is_sized said.database said.loaded).coins in
        omega (arith, all, need, enough, said.short.fewer)

    -- or all of them weren't taken
    not_whole : length coins < coins_of_file o (length bytes) → SplitAll o old new → ⊥
    not_whole short said =
        let toss = said.shared.shares.tossed in
        let need = coins_to_split o said.database in
        let taken = at_told (λ (h : List ℕ). said.shared.shares.coins ≡ take need h) (old.at COINS).holds coins tossed toss.told in
        let size = (is_sized said.database said.loaded).coins in
        omega (arith, toss.size, ap length taken, length-take need coins, size, short)

    -- with coins enough, the database is split
    all_split : (status : Status) → coins_of_file o (length bytes) ≤ length coins → SplitEnds o status old new → ((status ≡ One) × SplitAll o old new) ⊎ (status ≡ Memory)
    all_split One enough said = inl (refl, said)
    all_split ReadFault enough said = absurd (no_read_fault said)
    all_split WriteFault enough said = absurd (no_write_fault said)
    all_split (BadInput EmptyFile) enough said = absurd (not_empty some said)
    all_split (BadInput (TooBig most)) enough said = absurd (not_too_big most few said)
    all_split (BadInput (CoinsEnded taken)) enough said = absurd (not_short taken enough said)
    all_split Memory enough said = inr refl
    all_split status enough said = absurd said

    -- with too few, it isn't
    none_split : (status : Status) → length coins < coins_of_file o (length bytes) → SplitEnds o status old new → (status ≡ BadInput (CoinsEnded (length coins))) ⊎ (status ≡ Memory)
    none_split One short said = absurd (not_whole short said)
    none_split ReadFault short said = absurd (no_read_fault said)
    none_split WriteFault short said = absurd (no_write_fault said)
    none_split (BadInput EmptyFile) short said = absurd (not_empty some said)
    none_split (BadInput (TooBig most)) short said = absurd (not_too_big most few said)
    none_split (BadInput (CoinsEnded taken)) short said =
        let all = at_told (λ (h : List ℕ). length h ≡ taken) (old.at COINS).holds coins tossed said.short.all in
        inl (ap (λ (n : ℕ). BadInput (CoinsEnded n)) (sym all))
    none_split Memory short said = inr refl
    none_split status short said = absurd said

-- what is promised of `split`
pub split_promised : (o : SplitOrder) (status : Status) (old new : World) → 0 < o.width → SplitEnds o status old new → SplitPromise o status old new
split_promised o status old new wide said = record {
  split = λ bytes coins held some few tossed enough none written. all_split o old new wide none written bytes held some few coins tossed status enough said;
  empty_file = λ held none written. empty_file o old new wide none written [] held status refl said;
  too_big = λ bytes held more none written. too_big o old new wide none written bytes held status more said;
  too_few_coins = λ bytes coins held some few tossed short none written. none_split o old new wide none written bytes held some few coins tossed status short said;
}
