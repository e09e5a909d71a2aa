use Rattle.std.proofs.Common.{◌++◌}
use Rattle.shamir_share.specs.Lanes.{eights}
use Rattle.shamir_share.proofs.LaneParts.{picked}
use Rattle.shamir_share.proofs.sixteens.VectorsSixteens16.first_eights.Goals as goal

pub returns : goal.returns
returns c = picked 16 (c.args.a ++ c.args.b) (eights 16)
