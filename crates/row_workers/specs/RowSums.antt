-- Lists of sums over rows, and what is added to them.
use Rattle.std.specs.Prelude.{◌≡◌, ℕ, ◌<◌, List, slice_index}
use Rattle.gf256.specs.Field.{◌⊕◌}
use Rattle.gf256.specs.Sums.{run_sum}

-- `new` is `old` plus g, place by place
abbrev pub Adds : (ℕ → ℕ) → List ℕ → List ℕ → Type 0
Adds g old new = (k : ℕ) → slice_index new k ≡ slice_index old k ⊕ g k

-- the same in the first n places
abbrev pub AddsBelow : (ℕ → ℕ) → ℕ → List ℕ → List ℕ → Type 0
AddsBelow g n old new = (p : ℕ) → p < n → slice_index new p ≡ slice_index old p ⊕ g p

-- the first n places are the sums over the rows from `from` up to `to`, of which row j gives f p j to
-- place p
abbrev pub AreSums : (ℕ → ℕ → ℕ) → ℕ → ℕ → ℕ → List ℕ → Type 0
AreSums f n from to sums = (p : ℕ) → p < n → slice_index sums p ≡ run_sum (f p) from to

-- `new` is `old` plus these sums, in the first n places
abbrev pub AddsSums : (ℕ → ℕ → ℕ) → ℕ → ℕ → ℕ → List ℕ → List ℕ → Type 0
AddsSums f n from to old new =
    (p : ℕ) → p < n → slice_index new p ≡ slice_index old p ⊕ run_sum (f p) from to
