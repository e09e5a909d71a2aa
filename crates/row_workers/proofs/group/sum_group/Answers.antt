use Rattle.std.proofs.Common.{◌≡◌, ◌≤◌, ℕ, ◌*◌, ◌∙◌, ap, arith, sym, subst, mul-le-mul_right}
use Rattle.std.specs.Int.{div_ceil}
use Rattle.row_workers.proofs.RunSums.{zeros-at, zeros-long}
use Rattle.row_workers.proofs.group.sum_group.Goals as goal

-- the stack has room for so many blocks
blocks_fit : (lanes blocks d n : ℕ) → blocks ≡ d → lanes * (d * n) ≤ 66048 → lanes * (blocks * n) ≤ 66048
blocks_fit lanes blocks d n e = subst (λ b. lanes * (b * n) ≤ 66048) (sym e)

pub overflow_mul-size : goal.overflow_mul-size
overflow_mul-size g c = omega (arith, mul-le-mul_right (c.div_ceil.result * c.args.group.count) c.requires.lanes.0, blocks_fit g.row.N c.div_ceil.result _ c.args.group.count (c.div_ceil.ensures ∙ ap (λ w. div_ceil w g.row.N) c.width.ensures.is) c.requires.fits)

pub overflow_mul-size-2 : goal.overflow_mul-size-2
overflow_mul-size-2 g c = omega (arith, blocks_fit g.row.N c.div_ceil.result _ c.args.group.count (c.div_ceil.ensures ∙ ap (λ w. div_ceil w g.row.N) c.width.ensures.is) c.requires.fits)

pub slice_bounds-stack-end : goal.slice_bounds-stack-end
slice_bounds-stack-end g c =
    blocks_fit g.row.N c.div_ceil.result _ c.args.group.count (c.div_ceil.ensures ∙ ap (λ w. div_ceil w g.row.N) c.width.ensures.is) c.requires.fits

pub sum_in_blocks-requires-clause-zeros : goal.sum_in_blocks-requires-clause-zeros
sum_in_blocks-requires-clause-zeros g c = zeros-at (g.row.N * (c.div_ceil.result * c.args.group.count)) 66048

pub div_ceil-requires : goal.div_ceil-requires
div_ceil-requires g c = omega arith

pub overflow_cast-width : goal.overflow_cast-width
overflow_cast-width g c = omega arith

pub sum_in_blocks-requires-clause-lanes : goal.sum_in_blocks-requires-clause-lanes
sum_in_blocks-requires-clause-lanes g c = c.requires.lanes

pub sum_in_blocks-requires-clause-some : goal.sum_in_blocks-requires-clause-some
sum_in_blocks-requires-clause-some g c = c.requires.some

pub sum_in_blocks-requires-clause-few : goal.sum_in_blocks-requires-clause-few
sum_in_blocks-requires-clause-few g c = c.requires.few

pub sum_in_blocks-requires-clause-wide : goal.sum_in_blocks-requires-clause-wide
sum_in_blocks-requires-clause-wide g c = c.requires.wide

pub sum_in_blocks-requires-clause-order : goal.sum_in_blocks-requires-clause-order
sum_in_blocks-requires-clause-order g c = c.requires.order

pub sum_in_blocks-requires-clause-within : goal.sum_in_blocks-requires-clause-within
sum_in_blocks-requires-clause-within g c = c.requires.within

pub sum_in_blocks-requires-clause-queries : goal.sum_in_blocks-requires-clause-queries
sum_in_blocks-requires-clause-queries g c = c.requires.queries

pub sum_in_blocks-requires-clause-room : goal.sum_in_blocks-requires-clause-room
sum_in_blocks-requires-clause-room g c = c.requires.room

pub slice_bounds-sum_in_blocks-end : goal.slice_bounds-sum_in_blocks-end
slice_bounds-sum_in_blocks-end g c = sym (zeros-long (g.row.N * (c.div_ceil.result * c.args.group.count)) 66048 (blocks_fit g.row.N c.div_ceil.result _ c.args.group.count (c.div_ceil.ensures ∙ ap (λ w. div_ceil w g.row.N) c.width.ensures.is) c.requires.fits))

pub sum_in_blocks-requires-clause-blocks : goal.sum_in_blocks-requires-clause-blocks
sum_in_blocks-requires-clause-blocks g c =
    let is = c.div_ceil.ensures ∙ ap (λ w. div_ceil w g.row.N) c.width.ensures.is in
    zeros-long (g.row.N * (c.div_ceil.result * c.args.group.count)) 66048 (blocks_fit g.row.N c.div_ceil.result _ c.args.group.count is c.requires.fits)
    ∙ ap (λ d. g.row.N * (d * c.args.group.count)) is
