use Rattle.std.proofs.Common.{◌≡◌, ◌+◌, ◌*◌, ◌<◌, ◌≤◌, ℕ, slice_index, refl, subst, ◌∙◌, arith, mul-le-mul}
use Rattle.std.proofs.Math.Nat.{mul-le-mul_right}
use Rattle.std.proofs.lemmas.Simd.{length-put_chunk}
use Rattle.row_workers.proofs.PieceSums.{length-piece}
use Rattle.gf256.proofs.FlatRows.{row_within}
use Rattle.xor_answers.proofs.MaskSums.{mask_at, masks-more, masks-set}
use Rattle.xor_answers.proofs.group.set_masks.Goals as goal

pub loop-v-preserved : goal.loop-v-preserved
loop-v-preserved c =
    let x = c.mask_of in
    let y = c.mask_of-in-loop-v in
    let z = c.mask_of-in-loop-v-2 in
    let w = c.mask_of-in-loop-v-3 in
    masks-more c.loop-v.masks x.result y.result z.result w.result _ c.args.bitmaps.now c.args.size c.loop-v.v c.args.j c.args.apart
    (c.loop-v.auto.masks ∙ c.requires.room) (omega arith) refl x.ensures.size y.ensures.size z.ensures.size w.ensures.size
    x.ensures.each y.ensures.each z.ensures.each w.ensures.each c.loop-v.invariant

pub returns : goal.returns
returns c =
    let end : c.loop-v.v ≡ c.args.count = omega arith in
    masks-set c.loop-v.masks c.args.bitmaps.now c.args.size c.args.count c.args.j c.args.apart
    (subst (λ n. (p : ℕ) → p < 128 * n → slice_index c.loop-v.masks p ≡ mask_at c.args.bitmaps.now c.args.size c.args.j c.args.apart p) end c.loop-v.invariant)

pub loop-v-init : goal.loop-v-init
loop-v-init c = λ p l. absurd (omega arith)

pub overflow_mul-bitmap : goal.overflow_mul-bitmap
overflow_mul-bitmap c =
    let most : c.loop-v.v ≤ 16 = omega arith in
    omega (arith, mul-le-mul most c.requires.memory)

pub overflow_add-bitmap : goal.overflow_add-bitmap
overflow_add-bitmap c = omega arith

pub overflow_mul-bitmap-in-loop-v : goal.overflow_mul-bitmap-in-loop-v
overflow_mul-bitmap-in-loop-v c =
    let most : c.loop-v.v + 1 ≤ 16 = omega arith in
    omega (arith, mul-le-mul most c.requires.memory)

pub slice_bounds-bitmap-count : goal.slice_bounds-bitmap-count
slice_bounds-bitmap-count c =
    let next : c.loop-v.v ≤ c.loop-v.v + 1 = omega arith in
    mul-le-mul_right c.args.size next

pub slice_bounds-bitmap-start : goal.slice_bounds-bitmap-start
slice_bounds-bitmap-start c = omega (arith, row_within c.loop-v.v c.args.count c.args.size (omega arith), c.requires.bitmaps)

pub slice_bounds-bitmap-end : goal.slice_bounds-bitmap-end
slice_bounds-bitmap-end c =
    let next : c.loop-v.v + 1 ≤ c.args.count = omega arith in
    omega (arith, mul-le-mul_right c.args.size next, c.requires.bitmaps)

pub mask_of-requires : goal.mask_of-requires
mask_of-requires c =
    omega (arith, length-piece c.args.bitmaps.now c.args.size c.loop-v.v c.args.count (omega arith) c.requires.bitmaps, c.requires.within)

pub overflow_mul-masks : goal.overflow_mul-masks
overflow_mul-masks c = omega arith

pub store-masks : goal.store-masks
store-masks c = omega arith

pub overflow_add-j : goal.overflow_add-j
overflow_add-j c = omega arith

pub mask_of-requires-in-loop-v : goal.mask_of-requires-in-loop-v
mask_of-requires-in-loop-v c =
    omega (arith, length-piece c.args.bitmaps.now c.args.size c.loop-v.v c.args.count (omega arith) c.requires.bitmaps, c.requires.within)

pub overflow_mul-masks-in-loop-v : goal.overflow_mul-masks-in-loop-v
overflow_mul-masks-in-loop-v c = omega arith

pub overflow_add-masks : goal.overflow_add-masks
overflow_add-masks c = omega arith

pub store-masks-in-loop-v : goal.store-masks-in-loop-v
store-masks-in-loop-v c = omega (arith, length-put_chunk {A = ℕ})

pub overflow_mul-apart : goal.overflow_mul-apart
overflow_mul-apart c = omega arith

pub overflow_add-j-in-loop-v : goal.overflow_add-j-in-loop-v
overflow_add-j-in-loop-v c = omega arith

pub mask_of-requires-in-loop-v-2 : goal.mask_of-requires-in-loop-v-2
mask_of-requires-in-loop-v-2 c =
    omega (arith, length-piece c.args.bitmaps.now c.args.size c.loop-v.v c.args.count (omega arith) c.requires.bitmaps, c.requires.within)

pub overflow_mul-masks-in-loop-v-2 : goal.overflow_mul-masks-in-loop-v-2
overflow_mul-masks-in-loop-v-2 c = omega arith

pub overflow_add-masks-in-loop-v : goal.overflow_add-masks-in-loop-v
overflow_add-masks-in-loop-v c = omega arith

pub store-masks-in-loop-v-2 : goal.store-masks-in-loop-v-2
store-masks-in-loop-v-2 c = omega (arith, length-put_chunk {A = ℕ})

pub overflow_mul-apart-in-loop-v : goal.overflow_mul-apart-in-loop-v
overflow_mul-apart-in-loop-v c = omega arith

pub overflow_add-j-in-loop-v-2 : goal.overflow_add-j-in-loop-v-2
overflow_add-j-in-loop-v-2 c = omega arith

pub mask_of-requires-in-loop-v-3 : goal.mask_of-requires-in-loop-v-3
mask_of-requires-in-loop-v-3 c =
    omega (arith, length-piece c.args.bitmaps.now c.args.size c.loop-v.v c.args.count (omega arith) c.requires.bitmaps, c.requires.within)

pub overflow_mul-v : goal.overflow_mul-v
overflow_mul-v c = omega arith

pub overflow_add-v : goal.overflow_add-v
overflow_add-v c = omega arith

pub store-masks-in-loop-v-3 : goal.store-masks-in-loop-v-3
store-masks-in-loop-v-3 c = omega (arith, length-put_chunk {A = ℕ})

pub loop-v-smaller : goal.loop-v-smaller
loop-v-smaller c = omega arith
