use Rattle.std.proofs.Common.{◌≡◌, ◌∙◌, ℕ, suc, ◌+◌, ◌-◌, ◌*◌, ◌<◌, ◌≤◌, List, ◌++◌, length, take, refl, sym, ap, arith, suc-mul, zero-mul}
use Rattle.wire_frames.specs.Scheme.{payload_len}
use Rattle.wire_frames.specs.Turns.{in_turn, piece}
use Rattle.wire_frames.proofs.Turns.{in_turn-more, piece_between, piece_fits, turn_keeps, turn_written}
use Rattle.serve_core.specs.Reply.{answer}
use Rattle.server_calls.specs.Held.{database_of}
use Rattle.server_calls.proofs.sums.write_answers.Goals as goal

pub loop-i-init : goal.loop-i-init
unfolding in_turn
loop-i-init c = record {
  written = ap (λ (n : ℕ). take n c.args.out.now) (zero-mul c.args.rows.now.width);
  size = c.requires.room;
}

pub loop-i-preserved : goal.loop-i-preserved
loop-i-preserved c =
    let rows = c.args.rows.now in
    let i = c.loop-i.i in
    let out = c.loop-i.out in
    let row = c.write_answer.new.out in
    let width = rows.width in
    let database = database_of rows.bytes.now rows.count rows.width in
    let gives = λ (k : ℕ). answer c.args.scheme database (piece (payload_len c.args.scheme rows.count) k c.args.vectors.now) in
    let so_far = c.loop-i.invariant in
    let before : i < c.args.count = omega (arith, c.loop-i-test.true, c.from-i-end.ensures) in
    let next : i + 1 ≡ suc i = omega arith in
    let step : (i + 1) * width ≡ i * width + width = ap (λ (k : ℕ). k * width) next ∙ suc-mul i width in
    let fits : (i + 1) * width ≤ c.args.count * width = piece_fits i c.args.count width before in
    let own = piece_between i c.payload_len-size.result (payload_len c.args.scheme rows.count) c.args.vectors.now c.payload_len-size.ensures.is in
    let is : row ≡ gives i = c.write_answer.ensures ∙ ap (answer c.args.scheme database) own in
    let long : length row ≡ width = omega (arith, c.write_answer.auto.out, step, fits, so_far.size) in
    record {
      written = turn_written out row (in_turn i gives) (i * width) i (i + 1) ((i + 1) * width - i * width) width refl refl
          (omega (arith, fits, so_far.size)) long so_far.written
          ∙ ap (λ (l : List ℕ). in_turn i gives ++ l) is
          ∙ sym (in_turn-more i (i + 1) gives refl);
      size = turn_keeps out row (i * width) ((i + 1) * width - i * width) (omega (arith, step, fits, so_far.size)) (omega (arith, long, step)) ∙ so_far.size;
    }
