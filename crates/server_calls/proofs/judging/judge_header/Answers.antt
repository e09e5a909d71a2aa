use Rattle.std.proofs.Common.{inl, refl}
use Rattle.server_calls.proofs.Guests.{malformed}
use Rattle.server_calls.proofs.judging.judge_header.Goals as goal

pub returns-in_default : goal.returns-in_default
returns-in_default c = inl (refl, malformed c.args.header.now c.told-header c.in_default.ensures.1)
