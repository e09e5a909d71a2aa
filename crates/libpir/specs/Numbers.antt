-- The numbers of a verdict.
use Rattle.std.specs.Prelude.{ℕ, List, [], length, slice_index_or}
use Rattle.client_calls.specs.Listing.{joined}
use Rattle.libpir.specs.declared.numbers.VerdictNumbers.{VerdictNumbers}

-- all are 0
abbrev pub no_numbers : VerdictNumbers
no_numbers = record {
  blocks = 0;
  block_size = 0;
  needed = 0;
  answers = 0;
  degree = 0;
  agreement = 0;
  cost = 0;
}

-- how many bytes the first block has: 0 where there is none
abbrev pub first_size : List (List ℕ) → ℕ
first_size blocks = length (slice_index_or blocks 0 [])

-- those of a listing
abbrev pub listed_numbers : List (List ℕ) → VerdictNumbers
listed_numbers blocks =
    record no_numbers { blocks = length blocks; block_size = first_size blocks; needed = length (joined blocks) }

-- those of too few answers
abbrev pub few_numbers : ℕ → ℕ → VerdictNumbers
few_numbers k h = record no_numbers { answers = k; agreement = h }

-- those of an agreement that is too weak
abbrev pub weak_numbers : ℕ → ℕ → ℕ → VerdictNumbers
weak_numbers k t h = record no_numbers { answers = k; degree = t; agreement = h }

-- those of a listing that costs too much
abbrev pub cost_numbers : ℕ → VerdictNumbers
cost_numbers cost = record no_numbers { cost = cost }
