use Rattle.std.proofs.Common.{◌+◌, ◌-◌, ◌≡◌, length, take, drop, sym, ap, ap₂, ◌∙◌, arith, length-drop}
use Rattle.std.proofs.lemmas.List.{take_all}
use Rattle.gf256.specs.Field.{◌⊗◌}
use Rattle.gf256.specs.Polynomial.{val}
use Rattle.uni_poly.specs.Product.{vanishing}
use Rattle.column_runs.proofs.Basis.{val-basis}
use Rattle.column_runs.proofs.lagrange.basis_value.Goals as goal

pub returns : goal.returns
returns c =
    let xs = c.args.xs.now in
    let n = c.args.place + 1 in
    let size = length-drop n xs in
    let rest : take (length xs - n) (drop n xs) ≡ drop n xs = take_all (length xs - n) (drop n xs) (omega (arith, size)) in
    c.mul.ensures
    ∙ ap₂ ◌⊗◌ c.vanishing_value.ensures (c.vanishing_value-2.ensures ∙ ap (λ xs. val (vanishing xs) c.args.x) rest)
    ∙ sym (val-basis xs c.args.place c.args.x)
