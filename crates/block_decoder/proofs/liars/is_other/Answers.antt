use Rattle.std.proofs.Common.{[], ◌∷◌, not, if◌then◌else◌, sym, ap, ◌∙◌}
use Rattle.block_decoder.proofs.FirstAnswers.{others-one, others-no}
use Rattle.block_decoder.specs.Usable.{payload_of}
use Rattle.block_decoder.proofs.liars.is_other.Goals as goal

pub returns-in-Some : goal.returns-in-Some
returns-in-Some c =
    others-one c.args.indices.now c.args.index (payload_of c.args.session.now c.args.index) c.in-Some._payload.now c.in-Some.ensures
    ∙ ap (λ b. if not b then c.args.index ∷ [] else []) (sym c.contains.ensures.value)

pub returns-in-None : goal.returns-in-None
returns-in-None c = others-no c.args.indices.now c.args.index (payload_of c.args.session.now c.args.index) c.in-None.ensures
