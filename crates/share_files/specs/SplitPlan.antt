-- How a database is split into shares.
use Rattle.std.specs.Prelude.{ℕ, List, ◌++◌, map, codes, decimal}
use Rattle.std.specs.List.{range_with_len}

-- how many servers there are, so many of which learn nothing, the name that those of the files begin with, and the name
-- of the coins
pub record SplitPlan : Type 0 where
  pub servers : ℕ
  pub tau : ℕ
  pub into : List ℕ
  pub coins : List ℕ

-- the name of the file for the server with this index: the name that is given, a dot, and the index
unfoldable pub share_name : List ℕ → ℕ → List ℕ
share_name into index = into ++ (codes "." ++ decimal index)

-- the names of the files for n servers
unfoldable pub share_names : List ℕ → ℕ → List (List ℕ)
share_names into n = map (share_name into) (range_with_len 1 n)
