use Rattle.std.proofs.Common.{◌∙◌, ◌+◌, ◌≤◌, ◌++◌, length, bit_xor, ap₂, arith, sym}
use Rattle.std.specs.Simd.Lanes.{zip2, chunk}
use Rattle.std.proofs.lemmas.Simd.{take_more_put_chunk, length-put_chunk}
use Rattle.shamir_share.proofs.Rows.{masks_of_rest}
use Rattle.share_bytes.proofs.Shares.{shares_more, first_shares_are, share_of_lanes}
use Rattle.share_bytes.proofs.share.lanes_from.Goals as goal
use Rattle.share_bytes.proofs.share.lanes_from.Goals.{then-tau-gt-MOST_IN_LANES, else-tau-gt-MOST_IN_LANES}

pub lanes-init : goal.lanes-init
lanes-init g c =
    record {
      within = omega (arith, c.requires.within, c.requires.room);
      done = c.requires.done ∙ sym (first_shares_are c.args.bytes.now c.args.coins.now c.args.tau c.args.from c.args.products.now c.requires.within);
    }

pub lanes-preserved : goal.lanes-preserved
lanes-preserved g c =
    let n = g.row.N in
    let at = c.lanes.at in
    let bytes = c.args.bytes.now in
    let masks = c.if-tau-gt-MOST_IN_LANES.masks in
    let made = zip2 bit_xor masks (chunk at n bytes) in
    let room : at + n ≤ length bytes = omega arith in
    let is = share_of_lanes n bytes c.args.coins.now masks c.args.tau c.args.products.now at room
    (λ i. (c.type_inv.bytes i).fits) (elim c.if-tau-gt-MOST_IN_LANES.branch [
      | then-tau-gt-MOST_IN_LANES w ↦ w.masks-is ∙ w.wide_masks-masks.ensures
      | else-tau-gt-MOST_IN_LANES w ↦ w.masks-is ∙ w.lane_masks-masks.ensures
    ]
    ∙ masks_of_rest c.args.coins.now c.args.tau at n c.args.products.now) in
    record {
      within = omega (arith, length-put_chunk at c.lanes.out made);
      done = take_more_put_chunk at c.lanes.out made (at + n) (omega (arith, is.0)) (omega arith)
          ∙ ap₂ ◌++◌ c.lanes.invariant.done is.1 ∙ shares_more bytes c.args.coins.now c.args.tau at n c.args.products.now room;
    }

pub returns-clause-done : goal.returns-clause-done
returns-clause-done g c = c.lanes.invariant.done ∙ first_shares_are c.args.bytes.now c.args.coins.now c.args.tau c.lanes.at c.args.products.now (omega arith)
