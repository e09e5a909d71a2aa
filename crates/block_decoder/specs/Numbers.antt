-- The numbers of the decoder, for k answers of which h agree with polynomials of degree at most t.
use Rattle.std.specs.Prelude.{ℕ, zero, suc, ◌+◌, ◌*◌, ◌-◌, ◌/◌, min}
use Rattle.column_lists.specs.Numbers.{degree_of}
use Rattle.column_runs.specs.Close.{least_misses}

-- how many blocks can be agreed on (Johnson's count)
abbrev pub bound_of : ℕ → ℕ → ℕ → ℕ
bound_of k t h = k * (h - t) / (h * h - k * t)

-- how many columns are decoded at most: one, and in each further column one for each block that can be agreed on
unfoldable pub most_columns : ℕ → ℕ → ℕ → ℕ → ℕ
most_columns k t h width = 1 + (width - 1) * bound_of k t h

-- how many blocks a of the answers can agree on, and a + step, and so on for so many numbers, all together
unfoldable pub bounds_from : ℕ → ℕ → ℕ → ℕ → ℕ → ℕ
bounds_from k t step a zero = 0
bounds_from k t step a (suc numbers) = bound_of k t a + bounds_from k t step (a + step) numbers

-- how many lists are made at most, however wide the block: as many as blocks can be agreed on by h + w answers, by h + 2w and
-- so on up to k, where w is what each polynomial misses of answers that are not close to one
unfoldable pub most_lists : ℕ → ℕ → ℕ → ℕ
most_lists k t h = bounds_from k t (least_misses t h) (h + least_misses t h) ((k - h) / least_misses t h)

-- how many coefficients are fixed at most in looking for the roots of one column (Roth and Ruckenstein 2000)
abbrev pub column_nodes : ℕ → ℕ → ℕ → ℕ
column_nodes k t h = (t + 1) * (degree_of k t h / t)

-- how many coefficients are fixed at most in all columns: those of one column for each list, of which there is none but in a
-- column that is decoded
unfoldable pub most_nodes : ℕ → ℕ → ℕ → ℕ → ℕ
most_nodes k t h width = min (most_columns k t h width) (most_lists k t h) * column_nodes k t h
