-- The products with one factor, in two rows of 16.
use Rattle.std.specs.Prelude.{ℕ, ◌*◌, List, map}
use Rattle.std.specs.List.{range_with_len}
use Rattle.gf256.specs.Field.{◌⊗◌}

-- the products of a factor with 0 to 15
abbrev pub low_of : ℕ → List ℕ
low_of factor = map (λ i. factor ⊗ i) (range_with_len 0 16)

-- the products of a factor with 0, 16, .. 240
abbrev pub high_of : ℕ → List ℕ
high_of factor = map (λ i. factor ⊗ (i * 16)) (range_with_len 0 16)
