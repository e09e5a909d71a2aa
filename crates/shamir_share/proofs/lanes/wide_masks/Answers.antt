use Rattle.std.proofs.Common.{◌∙◌, ap, arith, take}
use Rattle.shamir_share.specs.Query.{masks}
use Rattle.shamir_share.proofs.Rows.{masks_of_first}
use Rattle.shamir_share.proofs.LaneParts.{masks_from_values}
use Rattle.shamir_share.proofs.lanes.wide_masks.Goals as goal

pub returns-then-not-may_read : goal.returns-then-not-may_read
returns-then-not-may_read g c =
    let rows = c.args.rows.now in
    let t = c.args.t in
    let n = g.row.N in
    c.last_masks.ensures ∙ ap (λ m. masks (take m rows) t n c.args.products.now) (omega arith) ∙ masks_of_first rows t n c.args.products.now

pub returns : goal.returns
returns g c = masks_from_values g.row.N c.args.rows.now _ c.times_lanes.result c.args.t c.args.products.now c.times_lanes.ensures c.wide_values.ensures
