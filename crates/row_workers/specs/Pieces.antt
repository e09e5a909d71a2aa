-- Lists of pieces of one size, one after the other.
use Rattle.std.specs.Prelude.{ℕ, List, ◌+◌, ◌*◌, slice_range}

-- piece v of a list of pieces that are so long
abbrev pub piece : ℕ → List ℕ → ℕ → List ℕ
piece size xs v = slice_range xs (v * size) ((v + 1) * size)
