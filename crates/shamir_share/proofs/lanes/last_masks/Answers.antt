use Rattle.shamir_share.proofs.Rows.{masks_none}
use Rattle.shamir_share.proofs.lanes.last_masks.Goals as goal

pub rows_into-requires-clause-done : goal.rows_into-requires-clause-done
rows_into-requires-clause-done g c = masks_none c.args.rows.now c.args.t c.args.products.now
