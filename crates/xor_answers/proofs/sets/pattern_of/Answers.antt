use Rattle.std.specs.Int.{bit_at}
use Rattle.row_workers.proofs.PieceSums.{length-piece}
use Rattle.gf256.proofs.FlatRows.{row_within}
use Rattle.std.proofs.Math.Nat.{mul-le-mul_right}
use Rattle.std.proofs.Common.{◌≡◌, ◌<◌, sym, subst, ◌∙◌, ◌≤◌, ◌+◌, arith, mul-le-mul, ◌-◌}
use Rattle.std.proofs.lemmas.Nat.Bits.{bit_at-lt}
use Rattle.row_workers.specs.Pieces.{piece}
use Rattle.chor_xor.specs.Bitmap.{bit_of}
use Rattle.xor_answers.proofs.PatternSums.{bit-byte, pattern-more, pattern-next}
use Rattle.xor_answers.proofs.sets.pattern_of.Goals as goal

pub loop-v-preserved : goal.loop-v-preserved
unfolding bit_of
loop-v-preserved c =
    let v = c.loop-v.v in
    let is : c.from-bit.result ≡ bit_of (piece c.args.size c.args.bitmaps.now v) c.args.j = c.from-bit.ensures ∙ bit-byte c.is_set.result ∙ sym c.is_set.ensures in
    let small = subst (λ b. b < 2) (sym is) (bit_at-lt _ _) in
    record {
      small = pattern-next c.loop-v.pattern c.from-bit.result v c.loop-v.invariant.small small;
      bits =
          pattern-more (λ u. bit_of (piece c.args.size c.args.bitmaps.now u) c.args.j) c.loop-v.pattern c.from-bit.result v small is
          c.loop-v.invariant.bits;
    }

pub loop-v-init : goal.loop-v-init
loop-v-init c = record { small = omega arith; bits = λ u l. absurd (omega arith) }

pub overflow_mul-v : goal.overflow_mul-v
overflow_mul-v c =
    let most : c.loop-v.v ≤ 8 = omega arith in
    omega (arith, mul-le-mul most c.requires.memory)

pub overflow_add-v : goal.overflow_add-v
overflow_add-v c = omega arith

pub overflow_mul-v-in-loop-v : goal.overflow_mul-v-in-loop-v
overflow_mul-v-in-loop-v c =
    let most : c.loop-v.v + 1 ≤ 8 = omega arith in
    omega (arith, mul-le-mul most c.requires.memory)

pub slice_bounds-is_set-count : goal.slice_bounds-is_set-count
slice_bounds-is_set-count c =
    let next : c.loop-v.v ≤ c.loop-v.v + 1 = omega arith in
    mul-le-mul_right c.args.size next

pub slice_bounds-is_set-start : goal.slice_bounds-is_set-start
slice_bounds-is_set-start c = omega (arith, row_within c.loop-v.v c.args.count c.args.size (omega arith), c.requires.bitmaps)

pub slice_bounds-is_set-end : goal.slice_bounds-is_set-end
slice_bounds-is_set-end c =
    let next : c.loop-v.v + 1 ≤ c.args.count = omega arith in
    omega (arith, mul-le-mul_right c.args.size next, c.requires.bitmaps)

pub is_set-requires : goal.is_set-requires
is_set-requires c = omega (arith, length-piece c.args.bitmaps.now c.args.size c.loop-v.v c.args.count (omega arith) c.requires.bitmaps, c.requires.within)

pub loop-v-smaller : goal.loop-v-smaller
loop-v-smaller c = omega arith

pub returns : goal.returns
returns c =
    let end : c.loop-v.v ≡ c.args.count = omega arith in
    λ v l. subst (λ n. bit_at c.loop-v.pattern (n - 1 - v) ≡ bit_of (piece c.args.size c.args.bitmaps.now v) c.args.j) end (c.loop-v.invariant.bits v (omega arith))
