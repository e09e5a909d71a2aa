use Rattle.std.proofs.Common.{rules}
use Rattle.std.proofs.lemmas.Option.{unwrap_or-slice_get}
use Rattle.gf256.specs.Polynomial.{coef}
use Rattle.bi_poly.proofs.row.coefficient.Goals as goal

pub returns : goal.returns
unfolding coef
returns c = search (rules, unwrap_or-slice_get)
