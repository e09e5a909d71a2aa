use Rattle.std.proofs.lemmas.Result.{err_from_is_err_and}
use Rattle.client_calls.proofs.Replays.{refused}
use Rattle.client_calls.proofs.replaying.session_of_bytes.Goals as goal

pub returns-in_err-feed-clause-read : goal.returns-in_err-feed-clause-read
returns-in_err-feed-clause-read c =
    let fault = err_from_is_err_and c.from_residual.result c.from_residual.ensures.1 in
    rw (fault.1, fault.2) (refused c.args.bytes.now _ _ _ c.new-reader.ensures c.in_err-feed.ensures)
