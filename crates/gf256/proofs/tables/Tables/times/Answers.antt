use Rattle.std.proofs.Common.{map, ap, ◌∙◌}
use Rattle.gf256.specs.Field.{◌⊗◌}
use Rattle.gf256.proofs.tables.Tables.times.Goals as goal

pub returns : goal.returns
returns g c = c.times.ensures ∙ ap (λ f. map (λ x. f ⊗ x) c.args.bytes) c.products.ensures
