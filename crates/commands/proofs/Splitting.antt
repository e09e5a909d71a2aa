-- A splitting from its first port to its last.
use Rattle.std.proofs.Common.{◌≡◌, ◌∙◌, inl, inr, ℕ, ◌<◌, List, length, lit<, sym, ap, subst, arith}
use Rattle.std.specs.Prelude.{Ok, Err}
use Rattle.port_trait.specs.World.{Cell, World}
use Rattle.port_trait.specs.Number.{COINS, DATABASE, OUTPUT}
use Rattle.port_trait.specs.Moves.{RoseOnce, Touches, took, gave, named, counted}
use Rattle.port_trait.specs.Files.{Unread}
use Rattle.port_trait.specs.Tossed.{RunsOut}
use Rattle.port_trait.proofs.Carried.{fails_writing_before}
use Rattle.block_matrix.specs.Database.{Database}
use Rattle.block_matrix.specs.Loading.{HoldsNone, Stopped, asked_for}
use Rattle.block_matrix.specs.declared.matrix.LoadFault.{LoadFault}
use Rattle.block_matrix.specs.declared.matrix.LoadFault.TheVariants.{EmptyFile as NoBytes, TooBig as TooManyBytes, ReadFault as Unloadable, Memory as NoRoom}
use Rattle.share_files.specs.Limit.{HoldsFew, HoldsTooMany, LoadsFew}
use Rattle.share_files.specs.Splits.{Splits, TouchesShares}
use Rattle.share_files.specs.declared.fault.SplitFault.{SplitFault}
use Rattle.share_files.specs.declared.fault.SplitFault.TheVariants.{CoinsFault as NoCoins, CoinsEnded as FewCoins, ShareFault, Memory as NoMemoryToSplit}
use Rattle.share_files.proofs.Carried.{part_before, whole_before}
use Rattle.commands.specs.Faults.{of_load, of_split}
use Rattle.commands.specs.ServeSteps.{HasBegun}
use Rattle.commands.specs.SplitOrder.{SplitOrder, plan_to_split}
use Rattle.commands.specs.SplitSteps.{LoadedToShare, SharesNotAll, SharesOut, TouchesSharing, cells_of, coins_to_split, split_text}
use Rattle.commands.specs.SplitOutcome.{SplitEnds, TouchesRead}
use Rattle.commands.specs.declared.status.Status.{Status}
use Rattle.commands.specs.declared.status.Status.TheVariants.{One, ReadFault, WriteFault, BadInput, Memory}
use Rattle.commands.specs.declared.status.Bad.TheVariants.{CoinsEnded}

-- a file that can't be read, counted from before, where nothing had touched its port
unread_before : (p : ℕ) (name : List ℕ) (most : ℕ) (w v u : World) → v.at p ≡ w.at p → Unread p name most v u → Unread p name most w u
unread_before p name most w v u still cut = record {
  n = cut.n;
  fewer = cut.fewer;
  cell = elim cut.cell [
    | inl a ↦ inl (a ∙ ap (counted (u.at p).faults) still)
    | inr b ↦ inr (b ∙ ap (λ (c : Cell). counted (u.at p).faults (took cut.n (named name c))) still)
  ];
  rose = subst (λ (c : Cell). RoseOnce c.faults (u.at p).faults) still cut.rose;
}

-- not every share was written
pub unshared : (o : SplitOrder) (m : Database) (fault : SplitFault) (w v : World)
    → Splits (plan_to_split o) (cells_of m) (Err fault) w v → TouchesShares o.servers w v
    → SharesOut o m (of_split fault) w v
unshared o m NoCoins w v splits touch = splits
unshared o m (FewCoins taken) w v splits touch = splits
unshared o m ShareFault w v splits touch = inl (splits, touch.others OUTPUT (lit< tt) (λ e. omega (arith, e)) (λ lo hi. omega (arith, lo)))
unshared o m NoMemoryToSplit w v splits touch = splits

-- the database was loaded, and then it was shared
module _ (o : SplitOrder) (m : Database) (w v u : World) (few : o.servers < 256) (loaded : LoadedToShare o m w v) (touch : Touches DATABASE w v) (sharing : TouchesSharing o.servers v u) where
  -- the database is loaded at the end too
  still_loaded : LoadedToShare o m w u
  still_loaded = subst (λ (c : Cell). HoldsFew o.width o.tau m (named o.database (w.at DATABASE)) c)
      (sym (sharing.others DATABASE (lit< tt) (λ e. omega (arith, e)) (λ e. omega (arith, e)) (λ lo hi. omega (arith, lo)))) loaded

  -- Output isn't touched before
  output_still : v.at OUTPUT ≡ w.at OUTPUT
  output_still = touch.others OUTPUT (lit< tt) (λ e. omega (arith, e))

  -- nor is Coins
  coins_still : v.at COINS ≡ w.at COINS
  coins_still = touch.others COINS (lit< tt) (λ e. omega (arith, e))

  -- where Coins alone is touched then, nothing is written
  read_alone : Touches COINS v u → TouchesRead w u
  read_alone b = record {
    others = λ q l ne2 ne3. b.others q l ne3 ∙ touch.others q l ne2;
    crowd = b.crowd ∙ touch.crowd;
    started = b.started ∙ touch.started;
  }

  -- a sharing that is cut short is so from before
  not_all : SharesNotAll o m v u → SharesNotAll o m w u
  not_all cut = elim cut [
    | inl part ↦ inl (part_before (plan_to_split o) (cells_of m) w v u few touch part.0, part.1 ∙ output_still)
    | inr mute ↦ inr (whole_before (plan_to_split o) (cells_of m) w v u few touch mute.0, fails_writing_before OUTPUT w v u output_still (split_text o m) mute.1)
  ]

  -- where nothing is done then, the database was begun
  begun : u ≡ v → HasBegun o.database o.width w u × Touches DATABASE w u
  begun same =
      let holds = still_loaded.holds in (
        record { n = length holds.read; few = omega (arith, holds.file.few); cell = holds.cell },
        subst (λ (x : World). Touches DATABASE w x) (sym same) touch,
      )

  -- it ends as the sharing did
  pub split_ends : (status : Status) → SharesOut o m status v u → SplitEnds o status w u
  split_ends One said = record {
    database = m;
    loaded = still_loaded;
    shared = record {
      shares = whole_before (plan_to_split o) (cells_of m) w v u few touch said.shares;
      written = said.written ∙ ap (gave (split_text o m)) output_still;
    };
  }
  split_ends ReadFault said = inr (record {
    database = m;
    loaded = still_loaded;
    unread = unread_before COINS o.coins (coins_to_split o m) w v u coins_still said.0;
    others = read_alone said.1;
  })
  split_ends WriteFault said = record { database = m; loaded = still_loaded; cut = not_all said }
  split_ends (BadInput (CoinsEnded taken)) said = record {
    database = m;
    loaded = still_loaded;
    short = subst (λ (c : Cell). RunsOut (coins_to_split o m) taken (named o.coins c) (u.at COINS)) coins_still said.0;
    others = read_alone said.1;
  }
  split_ends Memory said = begun said
  split_ends status said = absurd said

-- Database was opened by its name, and then it was read
module _ (o : SplitOrder) (w v u : World) (is_open : v.at DATABASE ≡ named o.database (w.at DATABASE)) (first : Touches DATABASE w v) (second : Touches DATABASE v u) where
  -- Database alone was touched
  pub both_touch : Touches DATABASE w u
  both_touch = record {
    others = λ q l ne. second.others q l ne ∙ first.others q l ne;
    crowd = second.crowd ∙ first.crowd;
    started = second.started ∙ first.started;
  }

  -- it was loaded
  pub loaded_by : (m : Database) → LoadsFew o.width o.tau (Ok m) v u → LoadedToShare o m w u
  loaded_by m loads = subst (λ (c : Cell). HoldsFew o.width o.tau m c (u.at DATABASE)) is_open loads

  -- it holds none that can be shared
  pub unloaded : (fault : LoadFault) → LoadsFew o.width o.tau (Err fault) v u → SplitEnds o (of_load fault) w u
  unloaded NoBytes loads = (subst (λ (c : Cell). HoldsNone c (u.at DATABASE)) is_open loads, both_touch)
  unloaded (TooManyBytes most) loads = (
    (loads.0, subst (λ (c : Cell). HoldsTooMany o.width o.tau c (u.at DATABASE)) is_open loads.1),
    both_touch,
  )
  unloaded Unloadable loads = inl (
    record {
      n = loads.after.n;
      fewer = loads.fewer;
      cell = inr (loads.after.cell ∙ ap (λ (c : Cell). counted (u.at DATABASE).faults (took loads.after.n c)) is_open);
      rose = subst (λ (c : Cell). RoseOnce c.faults (u.at DATABASE).faults) is_open loads.after.rose;
    },
    both_touch,
  )
  unloaded NoRoom loads = (subst (λ (c : Cell). Stopped (asked_for o.width) c (u.at DATABASE)) is_open loads, both_touch)
