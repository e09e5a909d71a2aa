-- How many entries the fullest row has, as far as the entries were counted, in the order of their digests.
use Rattle.std.specs.Prelude.{◌≡◌, ℕ, ◌+◌, ◌-◌, ◌^◌, ◌<◌, ◌≤◌, List, length, take, max, slice_index_or}
use Rattle.key_table.specs.Digest.{row_of}
use Rattle.key_table.specs.Entry.{Pair}
use Rattle.key_table.specs.Places.{digest_at}
use Rattle.key_table.specs.Table.{pairs_in}
use Rattle.key_table.specs.Width.{fullest}
use Rattle.key_table.specs.declared.runs.Run.{Run}
use Rattle.key_table.specs.declared.shape.Counted.{Counted}

-- the row of the pair at a place
abbrev pub row_at : ℕ → List Pair → ℕ → ℕ
row_at rows pairs place = row_of rows (digest_at pairs place)

-- the rows of pairs never fall
abbrev pub NeverFall : ℕ → List Pair → Type 0
NeverFall rows pairs = (k j : ℕ) → k ≤ j → j < length pairs → row_at rows pairs k ≤ row_at rows pairs j

-- so many pairs were counted: the row of the last of them, how many of them have it, and how many the fullest row has
pub record AreCounted (rows : ℕ) (pairs : List Pair) (done : ℕ) (counted : Counted) : Type 0 where
  pub last : (k : ℕ) → k + 1 ≡ done → counted.row ≡ row_at rows pairs k
  pub run : counted.run ≡ length (pairs_in rows counted.row (take done pairs))
  pub fullest : counted.fullest ≡ fullest rows (take done pairs)
  pub few_run : counted.run ≤ done
  pub few : counted.fullest ≤ done + 1

-- one more pair was counted, whose row is this
abbrev pub CountsOne : Counted → ℕ → Counted → Type 0
CountsOne old row new = (rows : ℕ) (pairs : List Pair) (done : ℕ) → NeverFall rows pairs → done < length pairs → row ≡ row_at rows pairs done
    → row < rows → AreCounted rows pairs done old → AreCounted rows pairs (done + 1) new

-- so many pairs were counted by a run: where the row of the last of them begins, and how many the fullest before it has
pub record IsRun (rows : ℕ) (pairs : List Pair) (done : ℕ) (run : Run) : Type 0 where
  pub within : run.start ≤ done
  pub counted : AreCounted rows pairs done (record { row = row_at rows pairs (done - 1); run = done - run.start; fullest = max run.fullest (done - run.start) })

-- the run at a power of two: none was counted behind the last
abbrev pub run_at : List Run → ℕ → Run
run_at runs power = slice_index_or runs power (record { start = 0; fullest = 1 })

-- so many pairs were counted, for each power of two
abbrev pub AreRuns : List Pair → ℕ → List Run → Type 0
AreRuns pairs done runs = (k : ℕ) → k < 21 → IsRun (2 ^ k) pairs done (run_at runs k)
