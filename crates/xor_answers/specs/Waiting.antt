-- Rows that wait for others of the same pattern, and what they give.
use Rattle.std.specs.Prelude.{◌≡◌, ℕ, ◌+◌, ◌-◌, ◌*◌, ◌<◌, ◌≤◌, List, [], slice_index, slice_index_or}
use Rattle.std.specs.Int.{bit_at}
use Rattle.gf256.specs.Field.{◌⊕◌}
use Rattle.gf256.specs.Sums.{sum_to}
use Rattle.block_matrix.specs.Database.{Database}
use Rattle.row_workers.specs.declared.four_rows.FourRows.{FourRows}
use Rattle.xor_answers.specs.declared.gather.AskedRow.{AskedRow}
use Rattle.xor_answers.specs.declared.gather.UpToSeven.{UpToSeven}

-- column c of row j
unfoldable pub column : List (List ℕ) → ℕ → ℕ → ℕ
column rows c j = slice_index (slice_index_or rows j []) c

-- where a table of them has none
abbrev pub no_rows : UpToSeven
no_rows = record { rows = []; count = 0 }

-- column c of the sum of a few rows
unfoldable pub few_sum : List (List ℕ) → ℕ → UpToSeven → ℕ
few_sum rows c few = sum_to (λ i. column rows c (slice_index few.rows i)) few.count

-- what the rows that wait for others of pattern p give to column c of the bitmap that has bit i:
-- nothing where the pattern doesn't have this bit
unfoldable pub from_waiting : List (List ℕ) → List UpToSeven → ℕ → ℕ → ℕ → ℕ
from_waiting rows waiting i c p = bit_at p i * few_sum rows c (slice_index_or waiting p no_rows)

-- what all rows that wait give to it
unfoldable pub waiting_at : List (List ℕ) → List UpToSeven → ℕ → ℕ → ℕ
waiting_at rows waiting i c = sum_to (from_waiting rows waiting i c) 256

-- a few rows of the first n
pub record AreRows (n : ℕ) (few : UpToSeven) : Type 0 where
  pub most : few.count ≤ 7
  pub rows : (i : ℕ) → i < few.count → slice_index few.rows i < n

-- each of a table of them has a few rows of the first n
abbrev pub AllAreRows : ℕ → List UpToSeven → Type 0
AllAreRows n waiting = (p : ℕ) → p < 256 → AreRows n (slice_index_or waiting p no_rows)

-- they have row j more than others
abbrev pub HaveOneMore : UpToSeven → ℕ → UpToSeven → Type 0
HaveOneMore old j new =
    (rows : List (List ℕ)) (c : ℕ) → few_sum rows c new ≡ few_sum rows c old ⊕ column rows c j

-- a sum of a few rows and row j
abbrev pub IsSumWith : Database → UpToSeven → ℕ → List ℕ → Type 0
IsSumWith m few j sum =
    (c : ℕ) → c < m.width → slice_index sum c ≡ few_sum m.rows c few ⊕ column m.rows c j

-- place k of the sum of four rows
abbrev pub four_sum : FourRows → ℕ → ℕ
four_sum rows k =
    slice_index rows.a.now k ⊕ slice_index rows.b.now k
    ⊕ slice_index rows.c.now k ⊕ slice_index rows.d.now k

-- the sum of eight rows of so many bytes
abbrev pub IsSumOfEight : FourRows → FourRows → ℕ → List ℕ → Type 0
IsSumOfEight first second width sum =
    (k : ℕ) → k < width → slice_index sum k ≡ four_sum first k ⊕ four_sum second k

-- what f gives to column c of the bitmap that has bit i, where the pattern has this bit
abbrev pub asked_by : ℕ → (ℕ → ℕ) → ℕ → ℕ → ℕ
asked_by pattern f i c = bit_at pattern i * f c

-- in each of w columns the sums for n bitmaps are more by what g gives to the bitmap with the bit
abbrev pub Grows : ℕ → ℕ → (ℕ → ℕ → ℕ) → List ℕ → List ℕ → Type 0
Grows n w g old new = (v c : ℕ) → v < n → c < w
    → slice_index new (v * w + c) ≡ slice_index old (v * w + c) ⊕ g (n - 1 - v) c

-- a row was gathered: the sums for n bitmaps and the rows that wait give each that asks for it the
-- row more than before
abbrev pub GathersRow : Database → ℕ → AskedRow → List ℕ × List UpToSeven → List ℕ × List UpToSeven → Type 0
GathersRow m n asked old new = (v c : ℕ) → v < n → c < m.width
    → slice_index new.0 (v * m.width + c) ⊕ waiting_at m.rows new.1 (n - 1 - v) c
    ≡ slice_index old.0 (v * m.width + c) ⊕ waiting_at m.rows old.1 (n - 1 - v) c
    ⊕ bit_at asked.pattern (n - 1 - v) * column m.rows c asked.row
