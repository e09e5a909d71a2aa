use Rattle.query_rounds.proofs.Asking.{sent_is}
use Rattle.query_rounds.proofs.queries.Queries.write_frame.Goals as goal

pub returns : goal.returns
returns c =
    sent_is c.args.self.now c.args.index c.write_header.new.out c.write_payload.new.out c.write_header.ensures c.write_payload.ensures
