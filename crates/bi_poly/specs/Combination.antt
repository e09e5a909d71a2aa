-- Products with x - a.
use Rattle.std.specs.Prelude.{ℕ, List, map}
use Rattle.uni_poly.specs.Product.{linear, product}

-- q times x - a, row by row
abbrev pub times_linear_rows : List (List ℕ) → ℕ → List (List ℕ)
times_linear_rows q a = map (λ r. product r (linear a)) q
