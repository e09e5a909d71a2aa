-- What the words of `front` order.
use Rattle.std.specs.Prelude.{ℕ, List}
use Rattle.shard_front.specs.Spread.{Spread}

-- how the rows are spread over the shards, how many guests are met, where they come in, and the address of each shard
pub record FrontOrder : Type 0 where
  pub spread : Spread
  pub conns : ℕ
  pub listen : List ℕ
  pub addresses : List (List ℕ)
