-- The files of shares, written one after the other.
use Rattle.std.proofs.Common.{◌≡◌, ◌∙◌, inl, inr, ℕ, ◌+◌, ◌*◌, ◌<◌, ◌≤◌, List, [], length, take, slice_index_or, sym, ap, subst, arith}
use Rattle.std.proofs.lemmas.List.FromFn.{length-map-range_with_len}
use Rattle.quantity_limits.specs.declared.TheConstants.{MOST_SERVERS}
use Rattle.port_trait.specs.World.{Cell, World}
use Rattle.port_trait.specs.Number.{COINS, share_file}
use Rattle.port_trait.specs.Moves.{RoseOnce, Touches, gave, named, counted}
use Rattle.port_trait.specs.Each.{TouchesRange}
use Rattle.port_trait.specs.Files.{Unwritten}
use Rattle.port_trait.specs.Tossed.{Tossed}
use Rattle.port_trait.proofs.Ranges.{each_after, each_before, each_more, range_more}
use Rattle.share_files.specs.SplitPlan.{SplitPlan, share_name, share_names}
use Rattle.share_files.specs.Sharing.{Sharing, share_of}
use Rattle.share_files.specs.Splits.{IsShared, SharesEach, SharesSome, SplitsWhole, SplitsPart, Tosses, sharing_by}

-- a file that can't be written, counted from before, where nothing had touched its port
pub unwritten_before : (p : ℕ) (name bytes : List ℕ) (w v u : World) → v.at p ≡ w.at p → Unwritten p name bytes v u → Unwritten p name bytes w u
unwritten_before p name bytes w v u still cut = record {
  n = cut.n;
  proper = cut.proper;
  cell = elim cut.cell [
    | inl a ↦ inl (a ∙ ap (counted (u.at p).faults) still)
    | inr b ↦ inr (b ∙ ap (λ (c : Cell). counted (u.at p).faults (gave (take cut.n bytes) (named name c))) still)
  ];
  rose = subst (λ (c : Cell). RoseOnce c.faults (u.at p).faults) still cut.rose;
}

-- the shares of some servers are written, and that of the next can't be
pub shares_some : (names : List (List ℕ)) (sharing : Sharing) (done p : ℕ) (w v u : World)
    → done < length names → length names ≤ MOST_SERVERS → p ≡ share_file 1 + done
    → SharesEach names sharing done w v → TouchesRange (share_file 1) done w v
    → Unwritten p (slice_index_or names done []) (share_of sharing (done + 1)) v u → Touches p v u → SharesSome names sharing w u
shares_some names sharing done p w v u fewer few at so_far range cut touch =
    let still : v.at (share_file 1 + done) ≡ w.at (share_file 1 + done) = range.others (share_file 1 + done) (omega (arith, fewer, few)) (λ lo hi. omega (arith, hi)) in
    let cut_here = subst (λ (q : ℕ). Unwritten q (slice_index_or names done []) (share_of sharing (done + 1)) v u) at cut in
    let touch_here = subst (λ (q : ℕ). Touches q v u) at touch in
    record {
      done = done;
      fewer = fewer;
      whole = each_after (IsShared names sharing) (share_file 1) done (share_file 1 + done) w v u (omega (arith, fewer, few)) (inr (omega arith)) so_far touch_here;
      cut = unwritten_before (share_file 1 + done) (slice_index_or names done []) (share_of sharing (done + 1)) w v u still cut_here;
      later = λ i after lt. touch_here.others (share_file 1 + i) (omega (arith, lt, few)) (λ e. omega (arith, after, e))
          ∙ range.others (share_file 1 + i) (omega (arith, lt, few)) (λ lo hi. omega (arith, after, hi));
    }

-- one share more is written
pub shares_more : (names : List (List ℕ)) (sharing : Sharing) (done p : ℕ) (w v u : World)
    → done < length names → length names ≤ MOST_SERVERS → p ≡ share_file 1 + done
    → SharesEach names sharing done w v → TouchesRange (share_file 1) done w v
    → u.at p ≡ gave (share_of sharing (done + 1)) (named (slice_index_or names done []) (v.at p)) → Touches p v u
    → SharesEach names sharing (done + 1) w u × TouchesRange (share_file 1) (done + 1) w u
shares_more names sharing done p w v u fewer few at so_far range last touch =
    let last_here = subst (λ (q : ℕ). u.at q ≡ gave (share_of sharing (done + 1)) (named (slice_index_or names done []) (v.at q))) at last in
    let touch_here = subst (λ (q : ℕ). Touches q v u) at touch in (
      each_more (IsShared names sharing) (share_file 1) done w v u (omega (arith, fewer, few)) so_far range touch_here last_here,
      range_more (share_file 1) done w v u range touch_here,
    )

-- the coins were taken, and then the files of shares alone were touched
module _ (p : SplitPlan) (bytes coins : List ℕ) (w v u : World) (few : p.servers < 256)
    (toss : Tosses p bytes coins w v) (touch : Touches COINS w v) (range : TouchesRange (share_file 1) p.servers v u) where
  -- the coins are as they were taken
  still_tossed : Tosses p bytes coins w u
  still_tossed = subst (λ (c : Cell). Tossed (length bytes * p.tau) coins (named p.coins (w.at COINS)) c)
      (sym (range.others COINS (omega arith) (λ lo hi. omega (arith, lo)))) toss

  -- every share is written with them
  pub splits_whole : SharesEach (share_names p.into p.servers) (sharing_by p bytes coins) p.servers v u → SplitsWhole p bytes w u
  splits_whole shares = record {
    coins = coins;
    tossed = still_tossed;
    shares = each_before (IsShared (share_names p.into p.servers) (sharing_by p bytes coins)) (share_file 1) p.servers COINS w v u
        (omega (arith, few)) (inl (omega arith)) touch shares;
  }

  -- some are, and the next can't be
  pub splits_part : length (share_names p.into p.servers) ≡ p.servers → SharesSome (share_names p.into p.servers) (sharing_by p bytes coins) v u → SplitsPart p bytes w u
  splits_part size part =
      let names = share_names p.into p.servers in
      let untouched : (i : ℕ) → i < length names → v.at (share_file 1 + i) ≡ w.at (share_file 1 + i)
      = λ i lt. touch.others (share_file 1 + i) (omega (arith, lt, size, few)) (λ e. omega (arith, e)) in
      let sharing = sharing_by p bytes coins in
      let next = slice_index_or names part.done [] in
      record {
        coins = coins;
        tossed = still_tossed;
        shares = record {
          done = part.done;
          fewer = part.fewer;
          whole = each_before (IsShared names sharing) (share_file 1) part.done COINS w v u
              (omega (arith, part.fewer, size, few)) (inl (omega arith)) touch part.whole;
          cut = unwritten_before (share_file 1 + part.done) next (share_of sharing (part.done + 1)) w v u
              (untouched part.done part.fewer) part.cut;
          later = λ i after lt. part.later i after lt ∙ untouched i lt;
        };
      }

-- there is a name for each server
pub length-share_names : (into : List ℕ) (n : ℕ) → length (share_names into n) ≡ n
unfolding share_names
length-share_names into n = length-map-range_with_len (share_name into) 1 n

-- the same by the names and the number of coins that were counted
module _ (p : SplitPlan) (bytes coins : List ℕ) (names : List (List ℕ)) (n need : ℕ) (w v u : World) (few : p.servers < 256)
    (are : names ≡ share_names p.into p.servers) (count : n ≡ p.servers) (size : need ≡ length bytes * p.tau)
    (toss : Tossed need coins (named p.coins (w.at COINS)) (v.at COINS)) (touch : Touches COINS w v) (range : TouchesRange (share_file 1) n v u) where
  -- as many coins were taken as the bytes need
  tosses : Tosses p bytes coins w v
  tosses = subst (λ (k : ℕ). Tossed k coins (named p.coins (w.at COINS)) (v.at COINS)) size toss

  -- and the files of all servers alone were touched
  ranges : TouchesRange (share_file 1) p.servers v u
  ranges = subst (λ (k : ℕ). TouchesRange (share_file 1) k v u) count range

  -- every share is written
  pub whole_split : SharesEach names (sharing_by p bytes coins) (length names) v u → SplitsWhole p bytes w u
  whole_split shares = splits_whole p bytes coins w v u few tosses touch ranges
      (subst (λ (k : ℕ). SharesEach (share_names p.into p.servers) (sharing_by p bytes coins) k v u) (length-share_names p.into p.servers)
      (subst (λ (l : List (List ℕ)). SharesEach l (sharing_by p bytes coins) (length l) v u) are shares))

  -- some shares are
  pub part_split : SharesSome names (sharing_by p bytes coins) v u → SplitsPart p bytes w u
  part_split shares = splits_part p bytes coins w v u few tosses touch ranges (length-share_names p.into p.servers)
      (subst (λ (l : List (List ℕ)). SharesSome l (sharing_by p bytes coins) v u) are shares)
