use Rattle.std.proofs.Common.{◌≡◌, ℕ, ◌*◌, ◌<◌, length, get_or, subst, ◌∙◌, arith}
use Rattle.std.proofs.Math.Nat.{mul-le-mul_right}
use Rattle.gf256.specs.Field.{power}
use Rattle.gs_interpolate.specs.Expansion.{folded, AreFolded}
use Rattle.std.proofs.lemmas.List.{length-take-le}
use Rattle.gs_interpolate.proofs.Expansions.{expanded-used}
use Rattle.gs_interpolate.proofs.expansion.expand_row.Goals as goal

pub returns : goal.returns
returns c =
    let s = c.args.lanes in
    let e = c.args.terms in
    let d = c.terms_used-used.result in
    let a = c.args.a in
    let row = c.args.row.now in
    let sums = c.fold.new.sums in
    let size : length sums ≡ e * s = c.fold.auto.sums ∙ c.requires.size in
    let wide = mul-le-mul_right s c.terms_used-used.ensures.few in
    let is : (k : ℕ) → k < e * s → get_or sums k 0 ≡ folded (e * s) (power a e) row k =
    subst (λ n. (k : ℕ) → k < n → get_or sums k 0 ≡ folded n (power a e) row k) size
    (subst (λ p. AreFolded p row sums) c.requires.factor c.fold.ensures) in
    expanded-used s e d a row sums c.expand.new.cells c.requires.some c.requires.power c.terms_used-used.ensures.few c.terms_used-used.ensures.enough
    (λ k. (c.type_inv.row k).fits) size (c.expand.auto.cells ∙ length-take-le (d * s) sums (omega (arith, size, wide))) is c.expand.ensures
