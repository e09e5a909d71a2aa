use Rattle.std.proofs.Common.{ap, ap₂, ◌∙◌}
use Rattle.key_table.specs.Held.{Held, pairs_of}
use Rattle.key_table.specs.Places.{digest_at}
use Rattle.key_table.proofs.pairs.Pairs.digest.Goals as goal

pub returns : goal.returns
returns c =
    c.digest_in.ensures
    ∙ ap₂ (λ bytes starts. digest_at (pairs_of c.self.inside.size bytes starts) c.args.place) c.as_slice.ensures.value c.as_slice-2.ensures.value
    ∙ ap (λ (held : Held). digest_at held.pairs c.args.place) c.self.view_is
