-- What the words of `serve` order.
use Rattle.std.specs.Prelude.{ℕ, List}
use Rattle.block_matrix.specs.Database.{Database}
use Rattle.serve_core.specs.Service.{Service}

-- the number of the scheme, the name of the database and the width of its rows, how many guests are served, where they
-- come in, and how many workers sum the rows
pub record ServeOrder : Type 0 where
  pub scheme : ℕ
  pub database : List ℕ
  pub width : ℕ
  pub conns : ℕ
  pub listen : List ℕ
  pub workers : ℕ

-- what is served, once the database is loaded
abbrev pub service_of : ServeOrder → Database → Service
service_of o database = record { database = database; scheme = o.scheme; workers = o.workers }
