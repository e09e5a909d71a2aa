use Rattle.shamir_share.proofs.Rows.{masks_none}
use Rattle.shamir_share.proofs.lanes.lanes_into.Goals as goal

pub returns-then-t-eq0-clause-done : goal.returns-then-t-eq0-clause-done
returns-then-t-eq0-clause-done c = masks_none c.args.coins.now c.args.t c.args.products.now

pub lanes_from-wide-requires-clause-done : goal.lanes_from-wide-requires-clause-done
lanes_from-wide-requires-clause-done c = masks_none c.args.coins.now c.args.t c.args.products.now

pub lanes_from-requires-clause-done : goal.lanes_from-requires-clause-done
lanes_from-requires-clause-done c = masks_none c.args.coins.now c.args.t c.args.products.now
