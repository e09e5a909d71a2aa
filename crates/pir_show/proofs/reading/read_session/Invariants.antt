use Rattle.pir_show.proofs.Readings.{HasSeen}
use Rattle.pir_show.proofs.reading.read_session.Given as goal

abbrev pub invariant-loop : goal.invariant-loop
invariant-loop g l = HasSeen l.reader (g.R.Read.remaining l.initial.source) (g.R.Read.remaining l.source)
