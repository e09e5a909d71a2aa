use Rattle.std.proofs.lemmas.Result.{IfOk-from_err, err_from_is_err_and}
use Rattle.replay.specs.Replayed.{Spells}
use Rattle.replay.proofs.Judged.{no_room}
use Rattle.replay.proofs.Readings.{seen_nothing}
use Rattle.replay.proofs.read_session.Goals as goal

pub returns-in_err-buffer-clause-read : goal.returns-in_err-buffer-clause-read
returns-in_err-buffer-clause-read g c =
    let fault = err_from_is_err_and c.from_residual.result c.from_residual.ensures.1 in
    no_room Spells (g.P.Ports.world c.args.ports.now) c.from_residual.result fault.0 fault.1 fault.2

pub returns-in_err-buffer-clause-all : goal.returns-in_err-buffer-clause-all
returns-in_err-buffer-clause-all g c = IfOk-from_err c.from_residual.result _ c.from_residual.ensures.0

pub returns-in_err-buffer-clause-others : goal.returns-in_err-buffer-clause-others
returns-in_err-buffer-clause-others g c = let seen = seen_nothing (g.P.Ports.world c.args.ports.now) in seen.others

pub returns-clause-read : goal.returns-clause-read
returns-clause-read g c = c.read_pieces.ensures.read

pub returns-clause-all : goal.returns-clause-all
returns-clause-all g c = c.read_pieces.ensures.all

pub returns-clause-others : goal.returns-clause-others
returns-clause-others g c = c.read_pieces.ensures.others
