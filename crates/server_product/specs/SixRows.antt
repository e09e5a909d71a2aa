-- Six rows at once, each times a factor of its own.
use Rattle.std.specs.Prelude.{◌≡◌, ℕ}
use Rattle.gf256.specs.Field.{◌⊕◌}
use Rattle.gf256.specs.Rows.{multiple}
use Rattle.server_product.specs.declared.rows.Scaled.{Scaled}
use Rattle.server_product.specs.declared.six_rows.SixRows.{SixRows}
use Rattle.server_product.specs.declared.six_rows.SixProducts.{SixProducts}

-- place k of a row times its factor
abbrev pub scaled_at : Scaled → ℕ → ℕ
scaled_at scaled k = multiple scaled.row.now scaled.factor k

-- place k of the sum of six rows, each times its factor
unfoldable pub six_at : SixRows → ℕ → ℕ
six_at six k =
    scaled_at six.a k ⊕ scaled_at six.b k ⊕ scaled_at six.c k
    ⊕ scaled_at six.d k ⊕ scaled_at six.e k ⊕ scaled_at six.f k

-- the products of each factor of six rows
pub record AreProductsOf (products : SixProducts) (six : SixRows) : Type 0 where
  pub a : products.a ≡ six.a.factor
  pub b : products.b ≡ six.b.factor
  pub c : products.c ≡ six.c.factor
  pub d : products.d ≡ six.d.factor
  pub e : products.e ≡ six.e.factor
  pub f : products.f ≡ six.f.factor
