use Rattle.std.proofs.Common.{◌+◌, ◌++◌}
use Rattle.shamir_share.specs.Lanes.{pairs}
use Rattle.shamir_share.proofs.LaneParts.{picked}
use Rattle.shamir_share.proofs.sixteens.VectorsSixteens32.odds.Goals as goal

pub returns : goal.returns
returns c = picked 32 (c.args.a ++ c.args.b) (λ k. pairs 32 k + 1)
