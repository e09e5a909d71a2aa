use Rattle.std.proofs.Common.{◌∙◌, sym, ap, subst, arith}
use Rattle.std.proofs.lemmas.Result.{IfOk-from_err, err_from_is_err_and}
use Rattle.port_trait.specs.World.{Cell}
use Rattle.port_trait.specs.Number.{INPUT}
use Rattle.port_trait.specs.Moves.{RoseOnce, counted}
use Rattle.port_trait.proofs.Cells.{touches_more}
use Rattle.wire_frames.specs.Reading.{Reading}
use Rattle.replay.specs.Replayed.{Spells}
use Rattle.replay.proofs.Readings.{HasSeen, seen_by, seen_nothing, seen_stops, seen_whole, seen_short, seen_more, seen_grows}
use Rattle.replay.proofs.read_pieces.Goals as goal

pub pieces-init : goal.pieces-init
pieces-init g c =
    let w = g.P.Ports.world c.args.ports.now in
    subst (λ (r : Reading). HasSeen r w w) (sym c.new-reader.ensures) (seen_nothing w)

pub pieces-preserved : goal.pieces-preserved
pieces-preserved g c = seen_more _ _ _ _ _ _ _ _ _ c.take.auto.into c.pieces.invariant c.in-Ok.ensures.ok c.take.ensures.others c.in_ok-feed-in-Ok.ensures

pub pieces-smaller : goal.pieces-smaller
pieces-smaller g c = seen_grows _ _ _ _ _ _ _ _ _ (omega (arith, c.if-n-eq0.false)) c.take.auto.into c.pieces.invariant c.in-Ok.ensures.ok c.in_ok-feed-in-Ok.ensures

pub returns-in_err-feed-in-Ok-clause-read : goal.returns-in_err-feed-in-Ok-clause-read
returns-in_err-feed-in-Ok-clause-read g c =
    let fault = err_from_is_err_and c.from_residual.result c.from_residual.ensures.1 in
    rw (fault.1, fault.2) (seen_stops Spells _ _ _ _ _ _ _ _ _ (omega (arith, c.requires)) c.take.auto.into c.pieces.invariant c.in-Ok.ensures.ok c.in_err-feed-in-Ok.ensures)

pub returns-in_err-end-clause-read : goal.returns-in_err-end-clause-read
returns-in_err-end-clause-read g c =
    let fault = err_from_is_err_and c.from_residual-in_err-end.result c.from_residual-in_err-end.ensures.1 in
    rw (fault.1, fault.2) (seen_short _ _ _ _ _ _ _ _ c.pieces.invariant c.in-Ok.ensures.ok c.if-n-eq0.true (c.in-Ok.ensures.end c.if-n-eq0.true) c.in_err-end.ensures)

pub returns-clause-read : goal.returns-clause-read
returns-clause-read g c = seen_whole _ _ _ _ _ _ _ _ c.pieces.invariant c.in-Ok.ensures.ok c.if-n-eq0.true (c.in-Ok.ensures.end c.if-n-eq0.true) c.in_ok-end.ensures

pub returns-in-Err-clause-read : goal.returns-in-Err-clause-read
returns-in-Err-clause-read g c =
    let end = g.P.Ports.world c.take.new.self in
    let held = c.pieces.invariant in
    let failed = c.in-Err.ensures.failed in
    record {
      read = seen_by c.pieces.reader;
      begins = held.begins;
      cell = failed.cell ∙ ap (λ (x : Cell). counted (end.at INPUT).faults x) held.reads.cell;
      prefix = held.reads.told;
      rose = subst (λ (x : Cell). RoseOnce x.faults (end.at INPUT).faults) held.reads.cell failed.rose;
    }

pub returns-in-Err-clause-others : goal.returns-in-Err-clause-others
returns-in-Err-clause-others g c = touches_more _ _ (g.P.Ports.world c.pieces.ports) _ c.pieces.invariant.others c.take.ensures.others

pub returns-in_err-feed-in-Ok-clause-others : goal.returns-in_err-feed-in-Ok-clause-others
returns-in_err-feed-in-Ok-clause-others g c = touches_more _ _ (g.P.Ports.world c.pieces.ports) _ c.pieces.invariant.others c.take.ensures.others

pub returns-in_err-end-clause-others : goal.returns-in_err-end-clause-others
returns-in_err-end-clause-others g c = touches_more _ _ (g.P.Ports.world c.pieces.ports) _ c.pieces.invariant.others c.take.ensures.others

pub returns-clause-others : goal.returns-clause-others
returns-clause-others g c = touches_more _ _ (g.P.Ports.world c.pieces.ports) _ c.pieces.invariant.others c.take.ensures.others

pub returns-in_err-feed-in-Ok-clause-all : goal.returns-in_err-feed-in-Ok-clause-all
returns-in_err-feed-in-Ok-clause-all g c = IfOk-from_err c.from_residual.result _ c.from_residual.ensures.0

pub returns-in_err-end-clause-all : goal.returns-in_err-end-clause-all
returns-in_err-end-clause-all g c = IfOk-from_err c.from_residual-in_err-end.result _ c.from_residual-in_err-end.ensures.0
