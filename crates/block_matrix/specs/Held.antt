-- What the fields of `Matrix` hold.
use Rattle.std.specs.Prelude.{◌≡◌, ◌*◌, ◌<◌, All, vec_len}
use Rattle.quantity_limits.specs.Shape.{IsShape}
use Rattle.block_matrix.specs.declared.matrix.Matrix.TheInside.{Inside}

-- as many bytes as the rows have, and as many rows and bytes as a database may have
pub record IsWhole (m : Inside) : Type 0 where
  pub shape : IsShape m.rows m.width
  pub size : vec_len m.bytes ≡ m.rows * m.width
  pub bytes : All (λ b. b < 256) m.bytes.items
