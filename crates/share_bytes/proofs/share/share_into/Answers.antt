use Rattle.std.proofs.Common.{take, ◌≡◌, ◌+◌, ◌-◌, ◌≤◌, ◌++◌, length, ap, ap₂, sym, ◌∙◌, arith, length-append, length-drop}
use Rattle.std.proofs.Math.Nat.{mul-le-mul_right}
use Rattle.std.proofs.lemmas.List.{take_all, length-take}
use Rattle.std.proofs.lemmas.Slice.{take-put_mid}
use Rattle.share_bytes.specs.Share.{share}
use Rattle.share_bytes.proofs.Shares.{first_shares_are, shares_more, share_is, length-share, length-slice, length-slice_coins, first_shares}
use Rattle.share_bytes.proofs.share.share_into.Goals as goal

pub lanes_into-at-requires-clause-coins : goal.lanes_into-at-requires-clause-coins
lanes_into-at-requires-clause-coins c = c.requires.coins

pub lanes_into-at-requires-clause-room : goal.lanes_into-at-requires-clause-room
lanes_into-at-requires-clause-room c = c.requires.room

pub lanes_into-at-requires-clause-some : goal.lanes_into-at-requires-clause-some
lanes_into-at-requires-clause-some c = c.requires.some

pub pieces-init : goal.pieces-init
pieces-init c =
    let n = c.lanes_into-at.result in
    let coins = c.args.coins.now in
    record {
      within = omega (arith, c.lanes_into-at.ensures.within, c.lanes_into-at.auto.out, c.requires.room);
      done = c.lanes_into-at.ensures.done ∙ ap (λ a. take n (share c.args.bytes.now coins c.args.tau a)) c.of-products.ensures
          ∙ sym (first_shares_are c.args.bytes.now coins c.args.tau n c.args.index c.lanes_into-at.ensures.within);
    }

pub overflow_sub-out : goal.overflow_sub-out
overflow_sub-out c = c.pieces.invariant.within

pub overflow_add-end : goal.overflow_add-end
overflow_add-end c = omega (arith, c.min.ensures)

pub slice_bounds-share_piece-count : goal.slice_bounds-share_piece-count
slice_bounds-share_piece-count c = omega arith

pub slice_bounds-share_piece-end : goal.slice_bounds-share_piece-end
slice_bounds-share_piece-end c = omega (arith, c.min.ensures, c.requires.room)

pub overflow_mul-at : goal.overflow_mul-at
overflow_mul-at c =
    let fits : c.pieces.at ≤ length c.args.bytes.now = omega (arith, c.pieces.invariant.within, c.requires.room) in
    omega (arith, mul-le-mul_right c.args.tau fits, c.requires.coins)

pub overflow_mul-end : goal.overflow_mul-end
overflow_mul-end c =
    let fits : c.pieces.at + c.min.result ≤ length c.args.bytes.now = omega (arith, c.min.ensures, c.requires.room) in
    omega (arith, mul-le-mul_right c.args.tau fits, c.requires.coins)

pub slice_bounds-share_piece-count-in-pieces : goal.slice_bounds-share_piece-count-in-pieces
slice_bounds-share_piece-count-in-pieces c =
    let on : c.pieces.at ≤ c.pieces.at + c.min.result = omega arith in
    mul-le-mul_right c.args.tau on

pub slice_bounds-share_piece-end-in-pieces : goal.slice_bounds-share_piece-end-in-pieces
slice_bounds-share_piece-end-in-pieces c =
    let fits : c.pieces.at + c.min.result ≤ length c.args.bytes.now = omega (arith, c.min.ensures, c.requires.room) in
    omega (arith, mul-le-mul_right c.args.tau fits, c.requires.coins)

pub slice_bounds-share_piece-count-in-pieces-2 : goal.slice_bounds-share_piece-count-in-pieces-2
slice_bounds-share_piece-count-in-pieces-2 c = omega arith

pub slice_bounds-share_piece-end-in-pieces-2 : goal.slice_bounds-share_piece-end-in-pieces-2
slice_bounds-share_piece-end-in-pieces-2 c = omega (arith, c.min.ensures)

pub share_piece-requires-clause-coins : goal.share_piece-requires-clause-coins
share_piece-requires-clause-coins c =
    length-slice_coins c.args.bytes.now c.args.coins.now c.args.tau c.pieces.at c.min.result (omega (arith, c.min.ensures, c.requires.room)) c.requires.coins

pub share_piece-requires-clause-room : goal.share_piece-requires-clause-room
share_piece-requires-clause-room c =
    length-slice c.pieces.out c.pieces.at c.min.result (omega (arith, c.min.ensures))
    ∙ sym (length-slice c.args.bytes.now c.pieces.at c.min.result (omega (arith, c.min.ensures, c.requires.room)))

pub pieces-smaller : goal.pieces-smaller
pieces-smaller c =
    let at = c.pieces.at in
    let n = c.min.result in
    let bytes = c.args.bytes.now in
    let fits : at + n ≤ length bytes = omega (arith, c.min.ensures, c.requires.room) in
    let long = ap length c.share_piece.ensures ∙ length-share _ _ c.args.tau _ ∙ length-slice bytes at n fits in
    simp (length-append, length-take, length-drop) (omega (arith, long, c.min.ensures))

pub pieces-preserved : goal.pieces-preserved
pieces-preserved c =
    let at = c.pieces.at in
    let n = c.min.result in
    let bytes = c.args.bytes.now in
    let piece = c.share_piece.new.out in
    let fits : at + n ≤ length bytes = omega (arith, c.min.ensures, c.requires.room) in
    let same = c.share_piece.ensures ∙ ap (share _ _ c.args.tau) c.of-products.ensures in
    let long : length piece ≡ n = ap length same ∙ length-share _ _ c.args.tau c.args.index ∙ length-slice bytes at n fits in
    record {
      within = simp (length-append, length-take) (omega (arith, long, c.pieces.invariant.within));
      done = take-put_mid at (at + n - at) c.pieces.out piece (at + n) (omega (arith, long)) c.pieces.invariant.within
          ∙ ap₂ ◌++◌ c.pieces.invariant.done same ∙ shares_more bytes c.args.coins.now c.args.tau at n c.args.index fits;
    }

pub returns : goal.returns
returns c =
    let out = c.pieces.out in
    let bytes = c.args.bytes.now in
    let end : c.pieces.at ≡ length bytes = omega arith in
    sym (take_all c.pieces.at out (omega arith)) ∙ c.pieces.invariant.done
    ∙ ap (λ n. first_shares bytes c.args.coins.now c.args.tau n c.args.index) end ∙ share_is bytes c.args.coins.now c.args.tau c.args.index
