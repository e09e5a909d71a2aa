use Rattle.wire_frames.proofs.OneSession.{one_session}
use Rattle.wire_frames.proofs.laws.one_session.Goals as goal

pub returns : goal.returns
returns c = one_session c.args.bytes.now c.args.one.now c.args.other.now c.requires.one c.requires.other
