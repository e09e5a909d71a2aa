-- Shards and their rows.
use Rattle.std.proofs.Common.{◌≡◌, ℕ, ◌+◌, ◌*◌, ◌<◌, ◌≤◌, ap₂, arith, suc-mul}
use Rattle.std.proofs.Math.Nat.{mul-le-mul_right}
use Rattle.std.proofs.lemmas.Grind.{div_ceil_times}
use Rattle.wire_frames.specs.declared.header.QueryHeader.{QueryHeader}
use Rattle.wire_frames.specs.Limits.{IsQuery}
use Rattle.serve_core.specs.Taking.{IsGood}
use Rattle.shard_front.specs.Spread.{IsSpread, Spread, first_row, rows_in, shards, terms_of}
use Rattle.shard_front.specs.Parts.{header_to}

-- so many rows of so many bytes as it has, over shards as they are, are itself
pub spread_by : (spread : Spread) (rows width : ℕ) → rows ≡ spread.rows → width ≡ spread.width
    → (let made : Spread = record { rows = rows; width = width; shard = spread.shard } in made) ≡ spread
spread_by spread rows width r w =
    ap₂ (λ (a b : ℕ). let made : Spread = record { rows = a; width = b; shard = spread.shard } in made) r w

module _ (spread : Spread) (is : IsSpread spread) (i : ℕ) (there : i < shards spread) where
  -- a shard begins at a row of the database
  pub starts_within : first_row spread i < spread.rows
  starts_within =
      let times = div_ceil_times spread.rows spread.shard (omega (arith, is.some)) in
      let upto : (i + 1) * spread.shard ≤ shards spread * spread.shard = mul-le-mul_right spread.shard (omega (arith, there)) in
      omega (arith, times.1, upto, suc-mul i spread.shard)

  -- it has some rows of it
  pub some_rows : 1 ≤ rows_in spread i
  some_rows = omega (arith, starts_within, is.some)

  -- and no more than are left
  pub rows_within : first_row spread i + rows_in spread i ≤ spread.rows
  rows_within = omega (arith, starts_within)

  -- the query to it is one
  pub header_range : (query : QueryHeader) → IsGood (terms_of spread) query → IsQuery (header_to spread query i)
  header_range query good =
      let range = good.range in
      let shape = range.shape in
      let same = good.shape.rows in
      let few : rows_in spread i ≤ query.r = omega (arith, rows_within, same) in
      let cells : rows_in spread i * query.s ≤ query.r * query.s = mul-le-mul_right query.s few in
      record {
        some_scheme = range.some_scheme;
        two_schemes = range.two_schemes;
        some_index = range.some_index;
        few_indices = range.few_indices;
        session = range.session;
        shape = record {
          some_rows = some_rows;
          few_rows = omega (arith, few, shape.few_rows);
          some_bytes = shape.some_bytes;
          few_bytes = shape.few_bytes;
          few_cells = omega (arith, cells, shape.few_cells);
        };
        blocks = range.blocks;
      }
