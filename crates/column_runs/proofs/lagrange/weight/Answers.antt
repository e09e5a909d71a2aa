use Rattle.std.proofs.Common.{sym, ap, ◌∙◌}
use Rattle.gf256.specs.Field.{inverse}
use Rattle.uni_poly.proofs.Coefficients.{bytes_from_get_or}
use Rattle.column_runs.specs.Lagrange.{weight}
use Rattle.column_runs.proofs.Basis.{basis-own}
use Rattle.column_runs.proofs.lagrange.weight.Goals as goal

pub inv-requires : goal.inv-requires
inv-requires c = λ zero.
    basis-own c.args.xs.now (bytes_from_get_or c.args.xs.now (λ k. (c.type_inv.xs k).fits)) c.requires.distinct c.args.place c.requires.within
    (sym c.basis_value.ensures ∙ zero)

pub returns : goal.returns
unfolding weight
returns c = c.inv.ensures.inverse ∙ ap inverse c.basis_value.ensures
