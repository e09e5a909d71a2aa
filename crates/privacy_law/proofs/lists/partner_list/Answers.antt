use Rattle.std.proofs.Common.{◌≡◌, ◌∙◌, ℕ, ◌+◌, ◌*◌, ◌≤◌, List, length, get_or, refl, ap, arith}
use Rattle.std.proofs.Math.Nat.{mul-le-mul_right}
use Rattle.std.proofs.lemmas.List.{get_or_default}
use Rattle.std.proofs.lemmas.Result.{IfOk-from_err}
use Rattle.shamir_share.specs.Query.{query}
use Rattle.uni_poly.proofs.Coefficients.{bytes_from_get_or}
use Rattle.wire_frames.specs.Turns.{in_turn, piece}
use Rattle.wire_frames.proofs.Turns.{length-piece, piece_between, piece_fits}
use Rattle.privacy_law.specs.Partner.{partner, partner_list}
use Rattle.privacy_law.proofs.PartnerLists.{one_more, length-list, list_back, list_same}
use Rattle.privacy_law.proofs.lists.partner_list.Goals as goal

pub loop-i-init : goal.loop-i-init
unfolding in_turn
loop-i-init c = c.in_ok-changed.ensures.items

pub loop-i-preserved : goal.loop-i-preserved
loop-i-preserved c =
    let i = c.loop-i.i in
    let size = c.args.r * c.args.t in
    let coins = c.args.coins.now in
    let gives = λ (i : ℕ). partner (piece size i coins) c.args.t c.args.coalition.now (get_or c.args.b.now i 0) (get_or c.args.b2.now i 0) in
    let own = piece_between i size size coins refl in
    c.in_ok-extend_from_slice.ensures.items
    ∙ one_more i (i + 1) gives c.loop-i.changed.items c.deref.result.now refl c.loop-i.invariant
    (c.deref.ensures.value ∙ c.in_ok-partner.ensures.is ∙ ap (λ (l : List ℕ). partner l c.args.t c.args.coalition.now (get_or c.args.b.now i 0) (get_or c.args.b2.now i 0)) own)

pub returns-clause-is : goal.returns-clause-is
unfolding partner_list
returns-clause-is c =
    let end : c.loop-i.i ≡ length c.args.b.now = omega (arith, c.loop-i-test.false) in
    let gives = λ (i : ℕ). partner (piece (c.args.r * c.args.t) i c.args.coins.now) c.args.t c.args.coalition.now (get_or c.args.b.now i 0) (get_or c.args.b2.now i 0) in
    c.loop-i.invariant ∙ ap (λ (n : ℕ). in_turn n gives) end

pub returns-clause-queries : goal.returns-clause-queries
returns-clause-queries c i l k d m =
    let xs = c.args.coalition.now in
    let a = get_or xs k d in
    ap (λ (items : List ℕ). query (piece (c.args.r * c.args.t) i items) c.args.t c.args.r (get_or c.args.b2.now i 0) a) (returns-clause-is c)
    ∙ list_same c.args.coins.now c.args.t c.args.r xs c.args.b.now c.args.b2.now c.requires.coins i a l c.requires.bound
    (bytes_from_get_or xs (λ k. (c.type_inv.coalition k).fits)) c.requires.nonzero (k, m, get_or_default xs k a d m)

pub returns-clause-length : goal.returns-clause-length
returns-clause-length c =
    ap length (returns-clause-is c) ∙ length-list c.args.coins.now c.args.t c.args.r c.args.coalition.now c.args.b.now c.args.b2.now c.requires.coins

pub returns-clause-own_inverse : goal.returns-clause-own_inverse
returns-clause-own_inverse c =
    ap (λ (items : List ℕ). partner_list items c.args.t c.args.r c.args.coalition.now c.args.b2.now c.args.b.now) (returns-clause-is c)
    ∙ list_back c.args.coins.now c.args.t c.args.r c.args.coalition.now c.args.b.now c.args.b2.now c.requires.coins c.requires.as_many

pub overflow_mul-size : goal.overflow_mul-size
overflow_mul-size c =
    let one : 1 * (c.args.r * c.args.t) ≤ length c.args.b.now * (c.args.r * c.args.t) = mul-le-mul_right (c.args.r * c.args.t) c.requires.some in
    omega (arith, one, c.requires.coins)

pub overflow_mul-own : goal.overflow_mul-own
overflow_mul-own c =
    let size = c.args.r * c.args.t in
    let fits : (c.loop-i.i + 1) * size ≤ length c.args.coins.now = omega (arith, piece_fits c.loop-i.i (length c.args.b.now) size c.loop-i-test.true, c.requires.coins) in
    let step : c.loop-i.i * size ≤ (c.loop-i.i + 1) * size = mul-le-mul_right size (omega arith) in
    omega (arith, fits, step)

pub overflow_mul-own-in-loop-i : goal.overflow_mul-own-in-loop-i
overflow_mul-own-in-loop-i c =
    let size = c.args.r * c.args.t in
    let fits : (c.loop-i.i + 1) * size ≤ length c.args.coins.now = omega (arith, piece_fits c.loop-i.i (length c.args.b.now) size c.loop-i-test.true, c.requires.coins) in
    omega (arith, fits)

pub slice_bounds-own-count : goal.slice_bounds-own-count
slice_bounds-own-count c =
    mul-le-mul_right (c.args.r * c.args.t) (omega arith)

pub slice_bounds-own-start : goal.slice_bounds-own-start
slice_bounds-own-start c =
    mul-le-mul_right (c.args.r * c.args.t) (omega arith)

pub slice_bounds-own-end : goal.slice_bounds-own-end
slice_bounds-own-end c =
    let size = c.args.r * c.args.t in
    let fits : (c.loop-i.i + 1) * size ≤ length c.args.coins.now = omega (arith, piece_fits c.loop-i.i (length c.args.b.now) size c.loop-i-test.true, c.requires.coins) in
    fits

pub partner-requires-clause-coins : goal.partner-requires-clause-coins
partner-requires-clause-coins c =
    let size = c.args.r * c.args.t in
    let fits : (c.loop-i.i + 1) * size ≤ length c.args.coins.now = omega (arith, piece_fits c.loop-i.i (length c.args.b.now) size c.loop-i-test.true, c.requires.coins) in
    ap length (piece_between c.loop-i.i size size c.args.coins.now refl) ∙ length-piece size c.loop-i.i c.args.coins.now fits

pub returns-in_err-changed-clause-is : goal.returns-in_err-changed-clause-is
returns-in_err-changed-clause-is c = IfOk-from_err c.from_residual.result _ c.from_residual.ensures.0

pub returns-in_err-changed-clause-queries : goal.returns-in_err-changed-clause-queries
returns-in_err-changed-clause-queries c = IfOk-from_err c.from_residual.result _ c.from_residual.ensures.0

pub returns-in_err-changed-clause-length : goal.returns-in_err-changed-clause-length
returns-in_err-changed-clause-length c = IfOk-from_err c.from_residual.result _ c.from_residual.ensures.0

pub returns-in_err-changed-clause-own_inverse : goal.returns-in_err-changed-clause-own_inverse
returns-in_err-changed-clause-own_inverse c = IfOk-from_err c.from_residual.result _ c.from_residual.ensures.0

pub returns-in_err-partner-clause-is : goal.returns-in_err-partner-clause-is
returns-in_err-partner-clause-is c = IfOk-from_err c.from_residual-in_err-partner.result _ c.from_residual-in_err-partner.ensures.0

pub returns-in_err-partner-clause-queries : goal.returns-in_err-partner-clause-queries
returns-in_err-partner-clause-queries c = IfOk-from_err c.from_residual-in_err-partner.result _ c.from_residual-in_err-partner.ensures.0

pub returns-in_err-partner-clause-length : goal.returns-in_err-partner-clause-length
returns-in_err-partner-clause-length c = IfOk-from_err c.from_residual-in_err-partner.result _ c.from_residual-in_err-partner.ensures.0

pub returns-in_err-partner-clause-own_inverse : goal.returns-in_err-partner-clause-own_inverse
returns-in_err-partner-clause-own_inverse c = IfOk-from_err c.from_residual-in_err-partner.result _ c.from_residual-in_err-partner.ensures.0

pub returns-in_err-extend_from_slice-clause-is : goal.returns-in_err-extend_from_slice-clause-is
returns-in_err-extend_from_slice-clause-is c = IfOk-from_err c.from_residual-in_err-extend_from_slice.result _ c.from_residual-in_err-extend_from_slice.ensures.0

pub returns-in_err-extend_from_slice-clause-queries : goal.returns-in_err-extend_from_slice-clause-queries
returns-in_err-extend_from_slice-clause-queries c = IfOk-from_err c.from_residual-in_err-extend_from_slice.result _ c.from_residual-in_err-extend_from_slice.ensures.0

pub returns-in_err-extend_from_slice-clause-length : goal.returns-in_err-extend_from_slice-clause-length
returns-in_err-extend_from_slice-clause-length c = IfOk-from_err c.from_residual-in_err-extend_from_slice.result _ c.from_residual-in_err-extend_from_slice.ensures.0

pub returns-in_err-extend_from_slice-clause-own_inverse : goal.returns-in_err-extend_from_slice-clause-own_inverse
returns-in_err-extend_from_slice-clause-own_inverse c = IfOk-from_err c.from_residual-in_err-extend_from_slice.result _ c.from_residual-in_err-extend_from_slice.ensures.0
