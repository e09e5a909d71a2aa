-- What a splitting did, carried over what was done to Database before it.
use Rattle.std.proofs.Common.{◌≡◌, inl, ℕ, ◌+◌, ◌*◌, ◌<◌, List, [], length, slice_index_or, lit<, subst, ◌∙◌, arith}
use Rattle.port_trait.specs.World.{Cell, World}
use Rattle.port_trait.specs.Number.{COINS, DATABASE, share_file}
use Rattle.port_trait.specs.Moves.{Touches, named}
use Rattle.port_trait.specs.Tossed.{Tossed}
use Rattle.port_trait.proofs.Ranges.{each_before}
use Rattle.share_files.specs.Sharing.{share_of}
use Rattle.share_files.specs.SplitPlan.{SplitPlan, share_names}
use Rattle.share_files.specs.Splits.{IsShared, SharesEach, SplitsWhole, SplitsPart, Tosses, sharing_by}
use Rattle.share_files.proofs.Shares.{length-share_names, unwritten_before}

-- something was done to Database, and then the database was split
module _ (p : SplitPlan) (bytes : List ℕ) (w v u : World) (few : p.servers < 256) (touch : Touches DATABASE w v) where
  -- the coins that were taken count from before
  tosses_before : (coins : List ℕ) → Tosses p bytes coins v u → Tosses p bytes coins w u
  tosses_before coins t =
      subst (λ (c : Cell). Tossed (length bytes * p.tau) coins (named p.coins c) (u.at COINS))
      (touch.others COINS (lit< tt) (λ e. omega (arith, e))) t

  -- the shares that are written stay so
  each_shared : (coins : List ℕ) (n : ℕ) → n < 256 → SharesEach (share_names p.into p.servers) (sharing_by p bytes coins) n v u
      → SharesEach (share_names p.into p.servers) (sharing_by p bytes coins) n w u
  each_shared coins n lt e =
      each_before (IsShared (share_names p.into p.servers) (sharing_by p bytes coins)) (share_file 1) n DATABASE w v u
      (omega (arith, lt)) (inl (omega arith)) touch e

  -- each share is in its file
  pub whole_before : SplitsWhole p bytes v u → SplitsWhole p bytes w u
  whole_before s = record { coins = s.coins; tossed = tosses_before s.coins s.tossed; shares = each_shared s.coins p.servers few s.shares }

  -- some are, and the next can't be written
  pub part_before : SplitsPart p bytes v u → SplitsPart p bytes w u
  part_before s =
      let names = share_names p.into p.servers in
      let part = s.shares in
      let size = length-share_names p.into p.servers in
      let still : (i : ℕ) → i < length names → v.at (share_file 1 + i) ≡ w.at (share_file 1 + i)
      = λ i lt. touch.others (share_file 1 + i) (omega (arith, lt, size, few)) (λ e. omega (arith, e)) in
      let next = slice_index_or names part.done [] in
      record {
        coins = s.coins;
        tossed = tosses_before s.coins s.tossed;
        shares = record {
          done = part.done;
          fewer = part.fewer;
          whole = each_shared s.coins part.done (omega (arith, part.fewer, size, few)) part.whole;
          cut = unwritten_before (share_file 1 + part.done) next (share_of (sharing_by p bytes s.coins) (part.done + 1)) w v u
              (still part.done part.fewer) part.cut;
          later = λ i after lt. part.later i after lt ∙ still i lt;
        };
      }
