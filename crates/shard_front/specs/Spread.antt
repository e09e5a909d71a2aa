-- A database that is spread over shards, which are counted from 0 by their places, and from 1 by their numbers.
use Rattle.std.specs.Prelude.{ℕ, ◌-◌, ◌*◌, ◌≤◌, min}
use Rattle.std.specs.Int.{div_ceil}
use Rattle.quantity_limits.specs.Shape.{IsShape}
use Rattle.wire_frames.specs.declared.scheme.TheConstants.{SHAMIR}
use Rattle.serve_core.specs.declared.terms.Terms.{Terms}
use Rattle.quantity_limits.specs.declared.TheConstants.{MOST_SHARDS}

-- how many rows a database has, of how many bytes, and how many of them each shard has: the last may have fewer
pub record Spread : Type 0 where
  pub rows : ℕ
  pub width : ℕ
  pub shard : ℕ

-- how many shards there are
abbrev pub shards : Spread → ℕ
shards spread = div_ceil spread.rows spread.shard

-- the first row of the shard at place i
abbrev pub first_row : Spread → ℕ → ℕ
first_row spread i = i * spread.shard

-- how many rows it has: the last shard has what is left
abbrev pub rows_in : Spread → ℕ → ℕ
rows_in spread i = min spread.shard (spread.rows - first_row spread i)

-- a database that may be served, over shards that a front may ask
pub record IsSpread (spread : Spread) : Type 0 where
  pub shape : IsShape spread.rows spread.width
  pub some : 1 ≤ spread.shard
  pub within : spread.shard ≤ spread.rows
  pub few : shards spread ≤ MOST_SHARDS

-- which queries a front takes: those of Shamir's scheme, for all rows
abbrev pub terms_of : Spread → Terms
terms_of spread = record { scheme = SHAMIR; rows = spread.rows; width = spread.width }
