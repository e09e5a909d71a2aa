-- Lagrange's factors by weights, and by the products of the differences before a place and behind it.
use Rattle.std.proofs.Common.{◌≡◌, ℕ, ◌+◌, List, take, drop, sym, ap, ◌∙◌}
use Rattle.gf256.specs.Field.{◌⊗◌}
use Rattle.gf256.specs.Polynomial.{val}
use Rattle.gf256.proofs.FieldLaws.{mul_comm, mul_assoc}
use Rattle.uni_poly.specs.Product.{vanishing}
use Rattle.column_runs.specs.Lagrange.{factor, weight}
use Rattle.column_runs.proofs.Basis.{val-basis}

-- a weight, times the products before and behind, is the factor
pub factor-by_weight : (xs : List ℕ) (j a : ℕ)
    → (weight xs j ⊗ val (vanishing (take j xs)) a) ⊗ val (vanishing (drop (j + 1) xs)) a ≡ factor xs j a
unfolding factor weight
factor-by_weight xs j a =
    let w = weight xs j in
    let front = val (vanishing (take j xs)) a in
    let back = val (vanishing (drop (j + 1) xs)) a in
    mul_assoc w front back ∙ mul_comm w (front ⊗ back) ∙ ap (λ v. v ⊗ w) (sym (val-basis xs j a))
