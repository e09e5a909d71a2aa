-- What the words of `replay` order.
use Rattle.std.specs.Prelude.{ℕ, Bool, List}

-- the name of the file that holds the session, and whether a report is wanted
pub record ReplayOrder : Type 0 where
  pub file : List ℕ
  pub report : Bool
