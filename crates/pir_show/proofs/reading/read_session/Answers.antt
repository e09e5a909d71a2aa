use Rattle.std.proofs.lemmas.Result.{err_from_is_err_and}
use Rattle.pir_show.proofs.Readings.{seen_stops, seen_more}
use Rattle.pir_show.proofs.reading.read_session.Goals as goal

pub returns-in_err-feed-in-Ok : goal.returns-in_err-feed-in-Ok
returns-in_err-feed-in-Ok g c =
    let fault = err_from_is_err_and c.from_residual-in_err-feed-in-Ok.result c.from_residual-in_err-feed-in-Ok.ensures.1 in
    rw (fault.1, fault.2) (seen_stops _ _ _ _ _ _ _ c.loop.invariant c.in-Ok.ensures.bytes.0 c.in_err-feed-in-Ok.ensures)

pub loop-preserved : goal.loop-preserved
loop-preserved g c = seen_more _ _ _ _ _ _ _ c.loop.invariant c.in-Ok.ensures.bytes.0 c.in_ok-feed-in-Ok.ensures
