use Rattle.std.proofs.Common.{◌≡◌, ◌∙◌, ◌+◌, ◌-◌, ◌*◌, ◌≤◌, ◌++◌, ◌∷◌, [], length, drop, ap, ap₂, arith, length-append, length-drop}
use Rattle.std.proofs.Math.Nat.{mul-le-mul_right}
use Rattle.std.proofs.lemmas.List.{take_more_set, length-take, length-take-le}
use Rattle.std.proofs.lemmas.Slice.{take-put_mid}
use Rattle.shamir_share.proofs.Rows.{masks_more, masks_next, length-masks}
use Rattle.shamir_share.proofs.masks.rows_into.Goals as goal

pub fours-preserved : goal.fours-preserved
fours-preserved c =
    let row = c.fours.row in
    let four = c.copy_from_slice.new.self in
    let a = c.args.products.now in
    let same = c.copy_from_slice.ensures.after ∙ c.four_masks-values.ensures in
    let long : length four ≡ 4 = ap length same ∙ length-masks _ c.args.t 4 a in
    record {
      within = simp (length-append, length-take) (omega arith);
      done = take-put_mid row (row + 4 - row) c.fours.out four (row + 4) (omega arith) c.fours.invariant.within
          ∙ ap₂ ◌++◌ c.fours.invariant.done same ∙ masks_more c.args.coins.now c.args.t row 4 a;
    }

pub loop-j-preserved : goal.loop-j-preserved
loop-j-preserved c =
    let j = c.loop-j.j in
    let coins = c.args.coins.now in
    let enough : (j + 1) * c.args.t ≤ length coins = let h = mul-le-mul_right c.args.t (let l : j + 1 ≤ length c.args.out.now = omega arith in l) in omega (arith, h, c.requires.coins) in
    take_more_set c.loop-j.out j c.mask.result (omega arith)
    ∙ ap₂ (λ l v. l ++ v ∷ []) c.loop-j.invariant c.mask.ensures ∙ masks_next coins c.args.t j c.args.products.now enough

pub slice_bounds-four_masks-end : goal.slice_bounds-four_masks-end
slice_bounds-four_masks-end c =
    let row = c.fours.row in
    let coins = c.args.coins.now in
    let room : row + 4 ≤ length c.args.out.now = omega arith in
    let fits : (row + 4) * c.args.t ≤ length c.args.out.now * c.args.t = mul-le-mul_right c.args.t room in
    omega (arith, fits, c.requires.coins)

pub slice_bounds-four_masks-start : goal.slice_bounds-four_masks-start
slice_bounds-four_masks-start c =
    mul-le-mul_right c.args.t (omega arith)

pub slice_bounds-four_masks-count : goal.slice_bounds-four_masks-count
slice_bounds-four_masks-count c =
    mul-le-mul_right c.args.t (omega arith)

pub overflow_mul-row : goal.overflow_mul-row
overflow_mul-row c =
    let row = c.fours.row in
    let coins = c.args.coins.now in
    let room : row + 4 ≤ length c.args.out.now = omega arith in
    let fits : (row + 4) * c.args.t ≤ length c.args.out.now * c.args.t = mul-le-mul_right c.args.t room in
    let step : row * c.args.t ≤ (row + 4) * c.args.t = mul-le-mul_right c.args.t (omega arith) in
    omega (arith, fits, step, c.requires.coins)

pub overflow_mul-row-in-fours : goal.overflow_mul-row-in-fours
overflow_mul-row-in-fours c =
    let row = c.fours.row in
    let coins = c.args.coins.now in
    let room : row + 4 ≤ length c.args.out.now = omega arith in
    let fits : (row + 4) * c.args.t ≤ length c.args.out.now * c.args.t = mul-le-mul_right c.args.t room in
    omega (arith, fits, c.requires.coins)

pub four_masks-values-requires : goal.four_masks-values-requires
four_masks-values-requires c =
    let row = c.fours.row in
    let coins = c.args.coins.now in
    let room : row + 4 ≤ length c.args.out.now = omega arith in
    let fits : (row + 4) * c.args.t ≤ length c.args.out.now * c.args.t = mul-le-mul_right c.args.t room in
    let spread : row * c.args.t + 4 * c.args.t ≡ (row + 4) * c.args.t = grind arith in
    let rest = length-drop (row * c.args.t) coins in
    length-take-le ((row + 4) * c.args.t - row * c.args.t) (drop (row * c.args.t) coins) (omega (arith, rest, fits, spread, c.requires.coins)) ∙ omega (arith, spread)

pub overflow_mul-j : goal.overflow_mul-j
overflow_mul-j c =
    let j = c.loop-j.j in
    let room : j + 1 ≤ length c.args.out.now = omega arith in
    let fits : (j + 1) * c.args.t ≤ length c.args.out.now * c.args.t = mul-le-mul_right c.args.t room in
    let step : j * c.args.t ≤ (j + 1) * c.args.t = mul-le-mul_right c.args.t (omega arith) in
    omega (arith, fits, step, c.requires.coins)

pub overflow_mul-j-in-loop-j : goal.overflow_mul-j-in-loop-j
overflow_mul-j-in-loop-j c =
    let j = c.loop-j.j in
    let room : j + 1 ≤ length c.args.out.now = omega arith in
    let fits : (j + 1) * c.args.t ≤ length c.args.out.now * c.args.t = mul-le-mul_right c.args.t room in
    omega (arith, fits, c.requires.coins)

pub slice_bounds-mask-end : goal.slice_bounds-mask-end
slice_bounds-mask-end c =
    let j = c.loop-j.j in
    let room : j + 1 ≤ length c.args.out.now = omega arith in
    let fits : (j + 1) * c.args.t ≤ length c.args.out.now * c.args.t = mul-le-mul_right c.args.t room in
    omega (arith, fits, c.requires.coins)

pub slice_bounds-mask-start : goal.slice_bounds-mask-start
slice_bounds-mask-start c =
    mul-le-mul_right c.args.t (omega arith)

pub slice_bounds-mask-count : goal.slice_bounds-mask-count
slice_bounds-mask-count c =
    mul-le-mul_right c.args.t (omega arith)
