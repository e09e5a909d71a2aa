use Rattle.std.proofs.Common.{◌≡◌, ◌+◌, ◌-◌, ◌*◌, [], length, slice_index_or, refl, sym, ap, ap₂, ◌∙◌, arith}
use Rattle.gf256.specs.Field.{◌⊕◌}
use Rattle.gf256.specs.Sums.{run_sum}
use Rattle.gf256.proofs.Xor.{zero_add}
use Rattle.gf256.proofs.RunSums.{run-none, run-next}
use Rattle.row_workers.specs.Pieces.{piece}
use Rattle.chor_xor.specs.Bitmap.{size_of}
use Rattle.chor_xor.specs.Chosen.{given}
use Rattle.xor_answers.specs.Waiting.{column, no_rows}
use Rattle.xor_answers.proofs.AnswerSums.{all-asked}
use Rattle.xor_answers.proofs.PatternSums.{row-given}
use Rattle.xor_answers.proofs.WaitingSums.{waiting-none, none-are}
use Rattle.xor_answers.proofs.gather.add_in_eights.Goals as goal

pub loop-j-init : goal.loop-j-init
loop-j-init c =
    let rows = c.args.group.matrix.now.rows in
    let none = c.none_waiting-waiting.ensures in
    record {
      waiting = λ p l. none-are (length rows) (slice_index_or c.none_waiting-waiting.result p no_rows) (none p);
      sum = λ v k l m.
          ap₂ ◌⊕◌ (c.requires.zeros (v * c.args.group.matrix.now.width + k))
          (waiting-none rows c.none_waiting-waiting.result (c.args.group.count - 1 - v) k none)
          ∙ zero_add 0 ∙ sym (run-none (given (piece c.div_ceil-size.result c.args.group.queries.now v) rows k) c.args.from);
    }

pub loop-j-preserved : goal.loop-j-preserved
unfolding column
loop-j-preserved c =
    let rows = c.args.group.matrix.now.rows in
    let j = c.loop-j.j in
    record {
      waiting = c.gather.ensures.waiting;
      sum = λ v k l m.
          let bitmap = piece c.div_ceil-size.result c.args.group.queries.now v in
          let f = given bitmap rows k in
          c.gather.ensures.sum v k l m
          ∙ ap₂ ◌⊕◌ (c.loop-j.invariant.sum v k l m)
          (row-given bitmap (slice_index_or rows j []) rows _ _ c.pattern_of-pattern.result (c.args.group.count - 1 - v) k j c.rows.ensures.matrix (omega arith) m
          (c.pattern_of-pattern.ensures v l) refl)
          ∙ sym (run-next f c.args.from j (omega arith));
    }

pub returns : goal.returns
returns c =
    let group = c.args.group in
    let matrix = group.matrix.now in
    let end : c.loop-j.j ≡ c.args.to = omega arith in
    let size = c.div_ceil-size.ensures ∙ ap size_of c.rows.ensures.is in
    all-asked group.queries.now c.add_waiting.new.sums matrix.rows matrix.width group.count c.args.from c.args.to
    (λ v k l m.
    c.add_waiting.ensures v k l m ∙ c.loop-j.invariant.sum v k l m
    ∙ ap₂ (λ s j. run_sum (given (piece s group.queries.now v) matrix.rows k) c.args.from j) size end)

pub div_ceil-size-requires : goal.div_ceil-size-requires
div_ceil-size-requires c = omega arith

pub overflow_cast-size : goal.overflow_cast-size
overflow_cast-size c = omega arith

pub pattern_of-pattern-requires-clause-few : goal.pattern_of-pattern-requires-clause-few
pattern_of-pattern-requires-clause-few c = c.requires.few

pub pattern_of-pattern-requires-clause-within : goal.pattern_of-pattern-requires-clause-within
pattern_of-pattern-requires-clause-within c = omega arith

pub pattern_of-pattern-requires-clause-memory : goal.pattern_of-pattern-requires-clause-memory
pattern_of-pattern-requires-clause-memory c = omega arith

pub pattern_of-pattern-requires-clause-bitmaps : goal.pattern_of-pattern-requires-clause-bitmaps
pattern_of-pattern-requires-clause-bitmaps c = c.requires.bitmaps ∙ ap (λ s. c.args.group.count * s) (sym (c.div_ceil-size.ensures ∙ ap size_of c.rows.ensures.is))

pub gather-requires-clause-few : goal.gather-requires-clause-few
gather-requires-clause-few c = c.requires.few

pub gather-requires-clause-row : goal.gather-requires-clause-row
gather-requires-clause-row c = omega arith

pub gather-requires-clause-waiting : goal.gather-requires-clause-waiting
gather-requires-clause-waiting c = c.loop-j.invariant.waiting

pub gather-requires-clause-eight : goal.gather-requires-clause-eight
gather-requires-clause-eight c = c.loop-j.auto.eight ∙ c.requires.eight

pub gather-requires-clause-room : goal.gather-requires-clause-room
gather-requires-clause-room c = c.loop-j.auto.sums ∙ c.requires.room

pub loop-j-smaller : goal.loop-j-smaller
loop-j-smaller c = omega arith

pub add_waiting-requires-clause-few : goal.add_waiting-requires-clause-few
add_waiting-requires-clause-few c = c.requires.few

pub add_waiting-requires-clause-waiting : goal.add_waiting-requires-clause-waiting
add_waiting-requires-clause-waiting c = c.loop-j.invariant.waiting

pub add_waiting-requires-clause-eight : goal.add_waiting-requires-clause-eight
add_waiting-requires-clause-eight c = c.loop-j.auto.eight ∙ c.requires.eight

pub add_waiting-requires-clause-room : goal.add_waiting-requires-clause-room
add_waiting-requires-clause-room c = c.loop-j.auto.sums ∙ c.requires.room
