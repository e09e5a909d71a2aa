use Rattle.std.proofs.Common.{◌≡◌, ◌<◌, ◌≢◌, ℕ, length, get_or, MatchOption, ap, sym, subst, ◌∙◌, arith}
use Rattle.gf256.specs.Field.{◌⊗◌}
use Rattle.gf256.proofs.FieldLaws.{zero_mul}
use Rattle.linear_solve.specs.Kernel.{component}
use Rattle.linear_solve.specs.Echelon.{columns_of}
use Rattle.linear_solve.proofs.FirstNonzero.{first_nonzero-is}
use Rattle.linear_solve.proofs.InnerProducts.{inner-zero, unscaled}
use Rattle.linear_solve.proofs.Pivots.{length-rows_of}
use Rattle.linear_solve.proofs.echelon.reduce.Goals as goal

pub returns-in_err-column : goal.returns-in_err-column
returns-in_err-column c =
    let row = c.clear.new.row in
    let zero = subst (λ o. MatchOption o ((k : ℕ) → component row k ≡ 0) (λ k. (k < length row) × (component row k ≢ 0))) (sym c.in_err-column.ensures) (first_nonzero-is row) in
    rw c.from_residual.ensures (λ v h. sym (c.clear.ensures.same v h) ∙ inner-zero (component row) v (length c.args.row.now) zero)

pub inv-factor-requires : goal.inv-factor-requires
unfolding component
inv-factor-requires c =
    let row = c.clear.new.row in
    let found = subst (λ o. MatchOption o ((k : ℕ) → component row k ≡ 0) (λ k. (k < length row) × (component row k ≢ 0))) (sym c.in_ok-column.ensures) (first_nonzero-is row) in
    found.1

pub returns : goal.returns
unfolding component
returns c =
    let k = c.in_ok-column.column in
    let old = c.clear.new.row in
    let n = length c.args.row.now in
    let long : length old ≡ n = c.clear.auto.row in
    let found = subst (λ o. MatchOption o ((k : ℕ) → component old k ≡ 0) (λ k. (k < length old) × (component old k ≢ 0))) (sym c.in_ok-column.ensures) (first_nonzero-is old) in
    record {
      long = c.scale.auto.row ∙ long;
      inside = let l = found.0 in omega arith;
      one = c.scale.ensures k ∙ c.inv-factor.ensures.product;
      none = λ t l. c.scale.ensures (get_or (columns_of c.args.pivots.now) t 0) ∙ ap (λ x. x ⊗ c.inv-factor.result) (c.clear.ensures.cleared t (omega (arith, l, length-rows_of c.args.pivots.now))) ∙ zero_mul _;
      stands = λ v h z. sym (c.clear.ensures.same v h) ∙ unscaled (component c.scale.new.row) (component old) (component old k) c.inv-factor.result v n c.scale.ensures c.inv-factor.ensures.product z;
    }
