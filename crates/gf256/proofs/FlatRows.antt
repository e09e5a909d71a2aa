-- Rows of one width, one behind the other in one list.
use Rattle.std.proofs.Common.{ℕ, ◌+◌, ◌*◌, ◌<◌, ◌≤◌, arith}
use Rattle.std.proofs.Math.Nat.{mul-le-mul_right, add-mul}

-- a row lies within the rows
pub row_within : (place count width : ℕ) → place < count → place * width + width ≤ count * width
row_within place count width l = let h = mul-le-mul_right width (let next : place + 1 ≤ count = omega arith in next) in omega (arith, h, add-mul place 1 width)
