use Rattle.std.proofs.Common.{◌+◌, ◌*◌, ◌∙◌, ◌≤◌, ◌≡◌, subst, ap, sym, arith, length, get_or, take}
use Rattle.gf256.proofs.LaneSums.{lanes-of}
use Rattle.shamir_share.specs.Query.{masks}
use Rattle.shamir_share.specs.Lanes.{value_from}
use Rattle.shamir_share.proofs.Rows.{val_of_coin, masks_of_first}
use Rattle.shamir_share.proofs.LaneParts.{lanes-same, masks_from_values}
use Rattle.shamir_share.proofs.lanes.lane_masks.Goals as goal

pub returns-then-t-eq1 : goal.returns-then-t-eq1
returns-then-t-eq1 g c =
    let n = g.row.N in
    let rows = c.args.rows.now in
    let a = c.args.products.now in
    let one : c.args.t ≡ 1 = c.if-t-eq1.true in
    let whole : n * 1 ≤ length rows = subst (λ t. n * t ≤ length rows) one c.requires.rows in
    let room : 0 + n ≤ length rows = omega (arith, whole) in
    masks_from_values n rows _ c.times_lanes.result 1 a c.times_lanes.ensures
    (lanes-same n _ (λ k. get_or rows k 0) (value_from rows 1 0 a) (λ k l. sym (val_of_coin rows k a (omega (arith, l, room)) (c.type_inv.rows k).fits)) (lanes-of n rows 0 room))
    ∙ ap (λ t. masks rows t n a) (sym one)

pub returns-then-not-may_read : goal.returns-then-not-may_read
returns-then-not-may_read g c =
    let rows = c.args.rows.now in
    let t = c.args.t in
    let n = g.row.N in
    c.last_masks.ensures ∙ ap (λ m. masks (take m rows) t n c.args.products.now) (omega arith) ∙ masks_of_first rows t n c.args.products.now

pub returns : goal.returns
returns g c = masks_from_values g.row.N c.args.rows.now _ c.times_lanes-2.result c.args.t c.args.products.now c.times_lanes-2.ensures c.lane_values.ensures
