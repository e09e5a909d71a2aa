use Rattle.std.proofs.Common.{◌≡◌, ◌∙◌, ℕ, ◌+◌, ◌-◌, ◌*◌, ◌≤◌, List, sym, subst, length, get_or, refl, ap, arith}
use Rattle.std.proofs.Math.Nat.{mul-le-mul_right}
use Rattle.std.proofs.lemmas.Result.{IfOk-from_err}
use Rattle.chor_xor.specs.Bitmap.{bitmap, size_of}
use Rattle.wire_frames.specs.Turns.{in_turn, piece}
use Rattle.wire_frames.proofs.Turns.{length-piece, piece_between, piece_fits}
use Rattle.privacy_law.specs.Partner.{partner_xor, partner_xor_list}
use Rattle.privacy_law.proofs.PartnerLists.{one_more, length-xor_list, xor_list_back, xor_list_same}
use Rattle.privacy_law.proofs.lists.partner_xor_list.Goals as goal

pub loop-i-init : goal.loop-i-init
unfolding in_turn
loop-i-init c = c.in_ok-changed.ensures.items

pub loop-i-preserved : goal.loop-i-preserved
loop-i-preserved c =
    let i = c.loop-i.i in
    let size = (c.args.n - 1) * size_of c.args.r in
    let coins = c.args.coins.now in
    let gives = λ (i : ℕ). partner_xor (piece size i coins) c.args.n c.args.r c.args.left_out (get_or c.args.b.now i 0) (get_or c.args.b2.now i 0) in
    let own = piece_between i ((c.args.n - 1) * c.div_ceil.result) size coins (ap (λ (k : ℕ). (c.args.n - 1) * k) c.div_ceil.ensures) in
    c.in_ok-extend_from_slice.ensures.items
    ∙ one_more i (i + 1) gives c.loop-i.changed.items c.deref.result.now refl c.loop-i.invariant
    (c.deref.ensures.value ∙ c.in_ok-partner.ensures.is ∙ ap (λ (l : List ℕ). partner_xor l c.args.n c.args.r c.args.left_out (get_or c.args.b.now i 0) (get_or c.args.b2.now i 0)) own)

pub returns-clause-is : goal.returns-clause-is
unfolding partner_xor_list
returns-clause-is c =
    let end : c.loop-i.i ≡ length c.args.b.now = omega (arith, c.loop-i-test.false) in
    let gives = λ (i : ℕ). partner_xor (piece ((c.args.n - 1) * size_of c.args.r) i c.args.coins.now) c.args.n c.args.r c.args.left_out (get_or c.args.b.now i 0) (get_or c.args.b2.now i 0) in
    c.loop-i.invariant ∙ ap (λ (n : ℕ). in_turn n gives) end

pub returns-clause-bitmaps : goal.returns-clause-bitmaps
returns-clause-bitmaps c i l index first last ne =
    let block = c.requires.blocks i 0 l in
    let other = c.requires.others i 0 (omega (arith, l, c.requires.as_many)) in
    ap (λ (items : List ℕ). bitmap (piece ((c.args.n - 1) * size_of c.args.r) i items) c.args.n c.args.r (get_or c.args.b2.now i 0) index) (returns-clause-is c)
    ∙ xor_list_same c.args.coins.now c.args.n c.args.r c.args.left_out c.args.b.now c.args.b2.now c.requires.coins i index l block other
    c.requires.first c.requires.last first last ne

pub returns-clause-length : goal.returns-clause-length
returns-clause-length c =
    ap length (returns-clause-is c) ∙ length-xor_list c.args.coins.now c.args.n c.args.r c.args.left_out c.args.b.now c.args.b2.now c.requires.coins

pub returns-clause-own_inverse : goal.returns-clause-own_inverse
returns-clause-own_inverse c =
    ap (λ (items : List ℕ). partner_xor_list items c.args.n c.args.r c.args.left_out c.args.b2.now c.args.b.now) (returns-clause-is c)
    ∙ xor_list_back c.args.coins.now c.args.n c.args.r c.args.left_out c.args.b.now c.args.b2.now c.requires.coins c.requires.as_many

pub overflow_mul-size : goal.overflow_mul-size
overflow_mul-size c =
    let size = (c.args.n - 1) * size_of c.args.r in
    let given = (c.args.n - 1) * c.div_ceil.result in
    let is : given ≡ size = ap (λ (k : ℕ). (c.args.n - 1) * k) c.div_ceil.ensures in
    let one : 1 * size ≤ length c.args.b.now * size = mul-le-mul_right size c.requires.some in
    omega (arith, one, is, c.requires.coins)

pub overflow_mul-bitmaps : goal.overflow_mul-bitmaps
overflow_mul-bitmaps c =
    let size = (c.args.n - 1) * size_of c.args.r in
    let given = (c.args.n - 1) * c.div_ceil.result in
    let is : given ≡ size = ap (λ (k : ℕ). (c.args.n - 1) * k) c.div_ceil.ensures in
    let fits : (c.loop-i.i + 1) * size ≤ length c.args.coins.now = omega (arith, piece_fits c.loop-i.i (length c.args.b.now) size c.loop-i-test.true, c.requires.coins) in
    let fits_given = subst (λ (k : ℕ). (c.loop-i.i + 1) * k ≤ length c.args.coins.now) (sym is) fits in
    let step : c.loop-i.i * given ≤ (c.loop-i.i + 1) * given = mul-le-mul_right given (omega arith) in
    omega (arith, fits_given, step)

pub overflow_mul-bitmaps-in-loop-i : goal.overflow_mul-bitmaps-in-loop-i
overflow_mul-bitmaps-in-loop-i c =
    let size = (c.args.n - 1) * size_of c.args.r in
    let given = (c.args.n - 1) * c.div_ceil.result in
    let is : given ≡ size = ap (λ (k : ℕ). (c.args.n - 1) * k) c.div_ceil.ensures in
    let fits : (c.loop-i.i + 1) * size ≤ length c.args.coins.now = omega (arith, piece_fits c.loop-i.i (length c.args.b.now) size c.loop-i-test.true, c.requires.coins) in
    let fits_given = subst (λ (k : ℕ). (c.loop-i.i + 1) * k ≤ length c.args.coins.now) (sym is) fits in
    omega (arith, fits_given)

pub slice_bounds-bitmaps-count : goal.slice_bounds-bitmaps-count
slice_bounds-bitmaps-count c =
    mul-le-mul_right ((c.args.n - 1) * c.div_ceil.result) (omega arith)

pub slice_bounds-bitmaps-start : goal.slice_bounds-bitmaps-start
slice_bounds-bitmaps-start c =
    mul-le-mul_right ((c.args.n - 1) * c.div_ceil.result) (omega arith)

pub slice_bounds-bitmaps-end : goal.slice_bounds-bitmaps-end
slice_bounds-bitmaps-end c =
    let size = (c.args.n - 1) * size_of c.args.r in
    let given = (c.args.n - 1) * c.div_ceil.result in
    let is : given ≡ size = ap (λ (k : ℕ). (c.args.n - 1) * k) c.div_ceil.ensures in
    let fits : (c.loop-i.i + 1) * size ≤ length c.args.coins.now = omega (arith, piece_fits c.loop-i.i (length c.args.b.now) size c.loop-i-test.true, c.requires.coins) in
    let fits_given = subst (λ (k : ℕ). (c.loop-i.i + 1) * k ≤ length c.args.coins.now) (sym is) fits in
    fits_given

pub partner_xor-requires-clause-coins : goal.partner_xor-requires-clause-coins
partner_xor-requires-clause-coins c =
    let size = (c.args.n - 1) * size_of c.args.r in
    let given = (c.args.n - 1) * c.div_ceil.result in
    let is : given ≡ size = ap (λ (k : ℕ). (c.args.n - 1) * k) c.div_ceil.ensures in
    let fits : (c.loop-i.i + 1) * size ≤ length c.args.coins.now = omega (arith, piece_fits c.loop-i.i (length c.args.b.now) size c.loop-i-test.true, c.requires.coins) in
    ap length (piece_between c.loop-i.i given size c.args.coins.now is) ∙ length-piece size c.loop-i.i c.args.coins.now fits

pub returns-in_err-changed-clause-is : goal.returns-in_err-changed-clause-is
returns-in_err-changed-clause-is c = IfOk-from_err c.from_residual.result _ c.from_residual.ensures.0

pub returns-in_err-changed-clause-bitmaps : goal.returns-in_err-changed-clause-bitmaps
returns-in_err-changed-clause-bitmaps c = IfOk-from_err c.from_residual.result _ c.from_residual.ensures.0

pub returns-in_err-changed-clause-length : goal.returns-in_err-changed-clause-length
returns-in_err-changed-clause-length c = IfOk-from_err c.from_residual.result _ c.from_residual.ensures.0

pub returns-in_err-changed-clause-own_inverse : goal.returns-in_err-changed-clause-own_inverse
returns-in_err-changed-clause-own_inverse c = IfOk-from_err c.from_residual.result _ c.from_residual.ensures.0

pub returns-in_err-partner-clause-is : goal.returns-in_err-partner-clause-is
returns-in_err-partner-clause-is c = IfOk-from_err c.from_residual-in_err-partner.result _ c.from_residual-in_err-partner.ensures.0

pub returns-in_err-partner-clause-bitmaps : goal.returns-in_err-partner-clause-bitmaps
returns-in_err-partner-clause-bitmaps c = IfOk-from_err c.from_residual-in_err-partner.result _ c.from_residual-in_err-partner.ensures.0

pub returns-in_err-partner-clause-length : goal.returns-in_err-partner-clause-length
returns-in_err-partner-clause-length c = IfOk-from_err c.from_residual-in_err-partner.result _ c.from_residual-in_err-partner.ensures.0

pub returns-in_err-partner-clause-own_inverse : goal.returns-in_err-partner-clause-own_inverse
returns-in_err-partner-clause-own_inverse c = IfOk-from_err c.from_residual-in_err-partner.result _ c.from_residual-in_err-partner.ensures.0

pub returns-in_err-extend_from_slice-clause-is : goal.returns-in_err-extend_from_slice-clause-is
returns-in_err-extend_from_slice-clause-is c = IfOk-from_err c.from_residual-in_err-extend_from_slice.result _ c.from_residual-in_err-extend_from_slice.ensures.0

pub returns-in_err-extend_from_slice-clause-bitmaps : goal.returns-in_err-extend_from_slice-clause-bitmaps
returns-in_err-extend_from_slice-clause-bitmaps c = IfOk-from_err c.from_residual-in_err-extend_from_slice.result _ c.from_residual-in_err-extend_from_slice.ensures.0

pub returns-in_err-extend_from_slice-clause-length : goal.returns-in_err-extend_from_slice-clause-length
returns-in_err-extend_from_slice-clause-length c = IfOk-from_err c.from_residual-in_err-extend_from_slice.result _ c.from_residual-in_err-extend_from_slice.ensures.0

pub returns-in_err-extend_from_slice-clause-own_inverse : goal.returns-in_err-extend_from_slice-clause-own_inverse
returns-in_err-extend_from_slice-clause-own_inverse c = IfOk-from_err c.from_residual-in_err-extend_from_slice.result _ c.from_residual-in_err-extend_from_slice.ensures.0
