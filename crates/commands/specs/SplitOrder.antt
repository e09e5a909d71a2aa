-- What the words of `split` order.
use Rattle.std.specs.Prelude.{ℕ, List}
use Rattle.share_files.specs.SplitPlan.{SplitPlan}

-- the name of the database and the width of its rows, how many servers share it and in which degree, what the names of
-- their files begin with, and the name of the coins
pub record SplitOrder : Type 0 where
  pub database : List ℕ
  pub width : ℕ
  pub servers : ℕ
  pub tau : ℕ
  pub into : List ℕ
  pub coins : List ℕ

-- how the database is split
abbrev pub plan_to_split : SplitOrder → SplitPlan
plan_to_split o = record { servers = o.servers; tau = o.tau; into = o.into; coins = o.coins }
