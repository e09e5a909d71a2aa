use Rattle.std.proofs.Common.{List, ℕ, subst}
use Rattle.port_trait.specs.Number.{OUTPUT}
use Rattle.port_trait.specs.Written.{Written}
use Rattle.port_trait.proofs.Pieces.{written_both}
use Rattle.key_fetches.specs.Text.{absent_line}
use Rattle.key_fetches.proofs.Ends.{absent_text, found_text, verdict_text}
use Rattle.key_fetches.proofs.write.write_end.Goals as goal

pub returns-in-Unlisted-clause-written : goal.returns-in-Unlisted-clause-written
returns-in-Unlisted-clause-written g c =
    subst (λ (t : List ℕ). Written OUTPUT t c.write_verdict.result (g.P.Ports.world c.args.ports.now) (g.P.Ports.world c.write_verdict.new.ports))
    (verdict_text c.args.look_up.now _ c.in-Unlisted.ensures) c.write_verdict.ensures.written

pub returns-in-Found-clause-written : goal.returns-in-Found-clause-written
returns-in-Found-clause-written g c =
    subst (λ (t : List ℕ). Written OUTPUT t c.write_found.result (g.P.Ports.world c.args.ports.now) (g.P.Ports.world c.write_found.new.ports))
    (found_text c.args.look_up.now _ c.in-Found.ensures.0 c.in-Found.ensures.1) c.write_found.ensures.written

pub returns-in-Absent-clause-written : goal.returns-in-Absent-clause-written
returns-in-Absent-clause-written g c =
    subst (λ (t : List ℕ). Written OUTPUT t c.write_all.result (g.P.Ports.world c.args.ports.now) (g.P.Ports.world c.write_all.new.ports))
    (absent_text c.args.look_up.now c.in-Absent.ensures.0 c.in-Absent.ensures.1)
    (written_both 1 absent_line c.write_all.result _ _ c.write_all.ensures.ok c.write_all.ensures.failed)
