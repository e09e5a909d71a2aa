use Rattle.std.proofs.Common.{◌+◌, ◌++◌}
use Rattle.shamir_share.specs.Lanes.{eights}
use Rattle.shamir_share.proofs.LaneParts.{picked}
use Rattle.shamir_share.proofs.sixteens.VectorsSixteens32.last_eights.Goals as goal

pub returns : goal.returns
returns c = picked 32 (c.args.a ++ c.args.b) (λ k. eights 32 k + 8)
