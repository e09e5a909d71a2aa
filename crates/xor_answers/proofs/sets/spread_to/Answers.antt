use Rattle.xor_answers.specs.declared.sets.TheConstants.{MOST_NARROW}
use Rattle.row_workers.proofs.PieceSums.{length-piece}
use Rattle.gf256.proofs.FlatRows.{row_within}
use Rattle.std.proofs.Math.Nat.{mul-le-mul_right}
use Rattle.std.proofs.Common.{◌≡◌, length, slice_index, ap, ap₂, sym, ◌∙◌, arith, ◌≤◌, ◌+◌, mul-le-mul, ◌*◌}
use Rattle.std.proofs.lemmas.Nat.Bits.{shr_and_one}
use Rattle.gf256.specs.Sums.{sum_to}
use Rattle.xor_answers.specs.Patterns.{from_pattern, spread_at}
use Rattle.xor_answers.proofs.PatternSums.{spread-then, spread-else}
use Rattle.xor_answers.proofs.sets.spread_to.Goals as goal
use Rattle.xor_answers.proofs.sets.spread_to.Goals.{then-pattern-place-eq1, else-pattern-place-eq1}

pub loop-pattern-init : goal.loop-pattern-init
unfolding sum_to
loop-pattern-init c = λ k l. c.clear.ensures k

pub loop-pattern-preserved : goal.loop-pattern-preserved
loop-pattern-preserved c = λ k l.
    let patterns = c.args.patterns.now in
    let width = length c.clear.new.row in
    let p = c.loop-pattern.pattern in
    let place = c.args.place in
    elim c.if-pattern-place-eq1.branch [
      | then-pattern-place-eq1 w ↦
          ap (λ xs. slice_index xs k) w.sums-is
          ∙ spread-then patterns width place k p _ _ l (sym (shr_and_one p place) ∙ w.if-pattern-place-eq1.true) (c.loop-pattern.invariant k l) (w.add_row.ensures k)
      | else-pattern-place-eq1 w ↦
          ap (λ xs. slice_index xs k) w.sums-is ∙ c.loop-pattern.invariant k l
          ∙ spread-else patterns width place k p (λ bit. w.if-pattern-place-eq1.false (shr_and_one p place ∙ bit))
    ]

pub returns : goal.returns
unfolding spread_at
returns c = λ k l.
    let size : length c.clear.new.row ≡ length c.args.sums.now = omega arith in
    let end : c.loop-pattern.pattern ≡ 256 = omega arith in
    c.loop-pattern.invariant k (omega (arith, l, size))
    ∙ ap₂ (λ w n. sum_to (from_pattern c.args.patterns.now w c.args.place k) n) size end

pub overflow_shr-pattern : goal.overflow_shr-pattern
overflow_shr-pattern c = omega arith

pub overflow_mul-pattern : goal.overflow_mul-pattern
overflow_mul-pattern c =
    let most : c.loop-pattern.pattern ≤ 256 = omega arith in
    omega (arith, mul-le-mul most (let m : length c.clear.new.row ≤ MOST_NARROW = omega (arith, c.requires.memory, c.clear.auto.row) in m))

pub overflow_add-pattern : goal.overflow_add-pattern
overflow_add-pattern c = omega arith

pub overflow_mul-pattern-then-pattern-place-eq1 : goal.overflow_mul-pattern-then-pattern-place-eq1
overflow_mul-pattern-then-pattern-place-eq1 c =
    let most : c.loop-pattern.pattern + 1 ≤ 256 = omega arith in
    omega (arith, mul-le-mul most (let m : length c.clear.new.row ≤ MOST_NARROW = omega (arith, c.requires.memory, c.clear.auto.row) in m))

pub slice_bounds-add_row-count : goal.slice_bounds-add_row-count
slice_bounds-add_row-count c =
    let next : c.loop-pattern.pattern ≤ c.loop-pattern.pattern + 1 = omega arith in
    mul-le-mul_right (length c.clear.new.row) next

pub slice_bounds-add_row-start : goal.slice_bounds-add_row-start
slice_bounds-add_row-start c = omega (arith, row_within c.loop-pattern.pattern 256 (length c.clear.new.row) (omega arith), c.requires.patterns, c.clear.auto.row)

pub slice_bounds-add_row-end : goal.slice_bounds-add_row-end
slice_bounds-add_row-end c =
    let next : c.loop-pattern.pattern + 1 ≤ 256 = omega arith in
    omega (arith, mul-le-mul_right (length c.clear.new.row) next, c.requires.patterns, c.clear.auto.row)

pub add_row-requires : goal.add_row-requires
add_row-requires c =
    let room : length c.args.patterns.now ≡ 256 * length c.clear.new.row = c.requires.patterns ∙ ap (λ w. 256 * w) (sym c.clear.auto.row) in
    omega (arith, length-piece c.args.patterns.now (length c.clear.new.row) c.loop-pattern.pattern 256 (omega arith) room, c.loop-pattern.auto.sums)

pub loop-pattern-smaller : goal.loop-pattern-smaller
loop-pattern-smaller c = omega arith
