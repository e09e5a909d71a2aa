use Rattle.std.proofs.Common.{ℕ, List, sym, subst}
use Rattle.port_trait.specs.Number.{OUTPUT}
use Rattle.port_trait.proofs.Pieces.{written_both}
use Rattle.list_tool.specs.Pending.{Puts}
use Rattle.list_tool.proofs.Putting.{put_through}
use Rattle.list_tool.proofs.pending.Pending.put.Goals as goal

pub returns-then-text-room-2-clause-puts : goal.returns-then-text-room-2-clause-puts
returns-then-text-room-2-clause-puts g c =
    let text = c.args.text.now in
    let before = c.args.self.now in
    let w = g.P.Ports.world c.args.ports.now in
    let v = g.P.Ports.world c.flush.new.ports in
    let u = g.P.Ports.world c.write_all.new.ports in
    let r = c.write_all.result in
    subst (λ (after : List ℕ). Puts text r before after w u) (sym c.in_ok-flush.ensures.none)
    (put_through text before r w v u c.in_ok-flush.ensures.written (written_both OUTPUT text r v u c.write_all.ensures.ok c.write_all.ensures.failed))
