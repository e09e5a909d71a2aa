use Rattle.std.proofs.Common.{◌≡◌, ◌-◌, ◌<◌, ap, ap₂, sym, subst, ◌∙◌, arith, ◌*◌}
use Rattle.gf256.specs.Field.{◌⊕◌}
use Rattle.gf256.specs.Sums.{run_sum}
use Rattle.gf256.proofs.RunSums.{run-none, run-next}
use Rattle.row_workers.specs.Pieces.{piece}
use Rattle.chor_xor.specs.Bitmap.{size_of}
use Rattle.chor_xor.specs.Chosen.{given}
use Rattle.xor_answers.specs.Patterns.{spread_at}
use Rattle.xor_answers.proofs.PatternSums.{spread-none, row-given}
use Rattle.xor_answers.proofs.sets.add_by_pattern.Goals as goal

pub loop-j-init : goal.loop-j-init
loop-j-init c = λ v k l m.
    spread-none c.args.patterns.now c.args.matrix.now.width (c.args.count - 1 - v) k c.requires.zeros
    ∙ sym (run-none (given (piece c.div_ceil-size.result c.args.bitmaps.now v) c.args.matrix.now.rows k) c.args.from)

pub loop-j-preserved : goal.loop-j-preserved
loop-j-preserved c = λ v k l m.
    let matrix = c.args.matrix.now in
    let width = matrix.width in
    let i = c.args.count - 1 - v in
    let bitmap = piece c.div_ceil-size.result c.args.bitmaps.now v in
    let f = given bitmap matrix.rows k in
    let size = c.row.ensures.size in
    let inside = subst (λ w. k < w) (sym size) m in
    ap (λ w. spread_at c.add_to_pattern.new.patterns w i k) (sym size) ∙ c.add_to_pattern.ensures i k inside
    ∙ ap₂ ◌⊕◌ (ap (λ w. spread_at c.loop-j.patterns w i k) size ∙ c.loop-j.invariant v k l m)
    (row-given bitmap c.row.result.now matrix.rows _ _ c.pattern_of.result i k c.loop-j.j c.rows.ensures.matrix (omega arith) m
    (c.pattern_of.ensures v l) c.row.ensures.is)
    ∙ sym (run-next f c.args.from c.loop-j.j (omega arith))

pub returns : goal.returns
returns c = λ v k l m.
    let matrix = c.args.matrix.now in
    let end : c.loop-j.j ≡ c.args.to = omega arith in
    let size = c.div_ceil-size.ensures ∙ ap size_of c.rows.ensures.is in
    c.loop-j.invariant v k l m
    ∙ ap₂ (λ s j. run_sum (given (piece s c.args.bitmaps.now v) matrix.rows k) c.args.from j) size end

pub div_ceil-size-requires : goal.div_ceil-size-requires
div_ceil-size-requires c = omega arith

pub overflow_cast-size : goal.overflow_cast-size
overflow_cast-size c = omega arith

pub pattern_of-requires-clause-few : goal.pattern_of-requires-clause-few
pattern_of-requires-clause-few c = c.requires.few

pub pattern_of-requires-clause-within : goal.pattern_of-requires-clause-within
pattern_of-requires-clause-within c = omega arith

pub pattern_of-requires-clause-memory : goal.pattern_of-requires-clause-memory
pattern_of-requires-clause-memory c = omega arith

pub pattern_of-requires-clause-bitmaps : goal.pattern_of-requires-clause-bitmaps
pattern_of-requires-clause-bitmaps c = c.requires.bitmaps ∙ ap (λ s. c.args.count * s) (sym (c.div_ceil-size.ensures ∙ ap size_of c.rows.ensures.is))

pub row-requires : goal.row-requires
row-requires c = omega arith

pub add_to_pattern-requires : goal.add_to_pattern-requires
add_to_pattern-requires c = omega (arith, c.row.ensures.size, c.loop-j.auto.patterns, c.requires.room)

pub loop-j-smaller : goal.loop-j-smaller
loop-j-smaller c = omega arith
