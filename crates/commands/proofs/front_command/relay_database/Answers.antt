use Rattle.std.proofs.Common.{◌∙◌, ap}
use Rattle.commands.specs.FrontOrder.{FrontOrder}
use Rattle.commands.proofs.Fronting.{front_spread}
use Rattle.commands.proofs.front_command.relay_database.Goals as goal

pub open-requires : goal.open-requires
open-requires g c = front_spread _ _ _ _ _ c.order.invariant

pub relay_from-requires : goal.relay_from-requires
relay_from-requires g c = c.in_ok-front.ensures ∙ ap (λ (o : FrontOrder). o.spread) c.order.view_is
