use Rattle.std.proofs.Common.{◌≡◌, ◌∙◌, ◌+◌, ◌*◌, ◌≤◌, ◌++◌, length, length-drop, ap, ap₂, arith}
use Rattle.std.proofs.Math.Nat.{mul-le-mul_right, add-mul}
use Rattle.std.proofs.lemmas.List.{length-take}
use Rattle.std.proofs.lemmas.Simd.{take_more_put_chunk, length-put_chunk}
use Rattle.shamir_share.proofs.Rows.{masks_more, masks_of_rest, length-masks}
use Rattle.shamir_share.proofs.LaneParts.{masks_from_values}
use Rattle.shamir_share.proofs.lanes.lanes_from.Goals as goal

pub lanes-preserved : goal.lanes-preserved
lanes-preserved g c =
    let n = g.row.N in
    let row = c.lanes.row in
    let t = c.args.t in
    let coins = c.args.coins.now in
    let made = c.times_lanes.result in
    let a = c.args.products.now in
    let is = masks_from_values n _ _ made t a c.times_lanes.ensures c.lane_values-values.ensures in
    let long : length made ≡ n = ap length is ∙ length-masks _ t n a in
    record {
      within = omega (arith, length-put_chunk row c.lanes.out made);
      done = take_more_put_chunk row c.lanes.out made (row + n) (omega (arith, long)) (omega arith)
          ∙ ap₂ ◌++◌ c.lanes.invariant.done (is ∙ masks_of_rest coins t row n a) ∙ masks_more coins t row n a;
    }

pub lane_values-values-requires : goal.lane_values-values-requires
lane_values-values-requires g c =
    let n = g.row.N in
    let row = c.lanes.row in
    let t = c.args.t in
    let room : row + n ≤ length c.args.out.now = omega (arith, c.lanes.invariant.within, c.lanes-test.true) in
    let fits : (row + n) * t ≤ length c.args.out.now * t = mul-le-mul_right t room in (
      omega (arith, g.N.fits),
      (
        c.requires.lanes,
        (
          c.width_of-width.ensures.width,
          (
            c.requires.some,
            (
              c.width_of-width.ensures.wide,
              (
                simp (length-take, length-drop) (omega (arith, fits, add-mul row n t, c.requires.coins)),
                c.may_read.ensures c.if-may_read.true,
              ),
            ),
          ),
        ),
      ),
    )
