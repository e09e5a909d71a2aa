use Rattle.std.proofs.Common.{length, sym, subst}
use Rattle.std.specs.Prelude.{Bool, None}
use Rattle.port_trait.specs.Number.{link}
use Rattle.query_rounds.specs.Link.{LinkTaken}
use Rattle.query_rounds.proofs.Asking.{fails_to_hand}
use Rattle.query_rounds.proofs.links.take_answer.Goals as goal

pub returns-in-Failed-clause-taken : goal.returns-in-Failed-clause-taken
returns-in-Failed-clause-taken g c =
    let place = link c.args.index in
    subst (λ (reached : Bool). LinkTaken (length c.args.answer.now) reached None ((g.P.Ports.world c.args.ports.now).at place)
    ((g.P.Ports.world c.read_exactly.new.ports).at place)) (sym c.if-not-reached.false)
    (fails_to_hand _ _ _ _ c.in-Failed.ensures.filled)
