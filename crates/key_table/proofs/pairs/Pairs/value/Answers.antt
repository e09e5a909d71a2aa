use Rattle.std.proofs.Common.{ap, ap₂, ◌∙◌}
use Rattle.key_table.specs.Held.{Held, pairs_of}
use Rattle.key_table.specs.Places.{value_at}
use Rattle.key_table.proofs.pairs.Pairs.value.Goals as goal

pub returns : goal.returns
returns c =
    c.value_in.ensures
    ∙ ap₂ (λ bytes starts. value_at (pairs_of c.self.inside.size bytes starts) c.args.place) c.as_slice.ensures.value c.as_slice-2.ensures.value
    ∙ ap (λ (held : Held). value_at held.pairs c.args.place) c.self.view_is
