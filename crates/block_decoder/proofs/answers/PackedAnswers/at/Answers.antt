use Rattle.std.proofs.Common.{◌≡◌, ◌*◌, length, ℕ, ◌+◌, ◌-◌, arith, ap, ◌∙◌, sym, get_or, take, drop}
use Rattle.block_decoder.specs.Agreed.{answer_at}
use Rattle.gf256.proofs.FlatRows.{row_within}
use Rattle.block_decoder.proofs.Agreed.{length-answers_of, answer_at-answers_of}
use Rattle.block_decoder.proofs.answers.PackedAnswers.at.Goals as goal

pub bounds-self-inside-place : goal.bounds-self-inside-place
bounds-self-inside-place c =
    let inside = c.self.inside in
    let n = length-answers_of inside.width inside.indices.now inside.bytes.now in
    omega (arith, n, ap length c.self.view_is)

pub overflow_mul-from : goal.overflow_mul-from
overflow_mul-from c =
    let inside = c.self.inside in
    let n = length-answers_of inside.width inside.indices.now inside.bytes.now in
    let w = row_within c.args.place (length inside.indices.now) inside.width (omega (arith, n, ap length c.self.view_is)) in
    omega (arith, w, c.self.invariant, c.self.told)

pub overflow_add-from : goal.overflow_add-from
overflow_add-from c =
    let inside = c.self.inside in
    let n = length-answers_of inside.width inside.indices.now inside.bytes.now in
    let w = row_within c.args.place (length inside.indices.now) inside.width (omega (arith, n, ap length c.self.view_is)) in
    omega (arith, w, c.self.invariant, c.self.told)

pub slice_bounds-new-end : goal.slice_bounds-new-end
slice_bounds-new-end c =
    let inside = c.self.inside in
    let n = length-answers_of inside.width inside.indices.now inside.bytes.now in
    let w = row_within c.args.place (length inside.indices.now) inside.width (omega (arith, n, ap length c.self.view_is)) in
    omega (arith, w, c.self.invariant, c.self.told)

pub returns : goal.returns
returns c =
    let inside = c.self.inside in
    let n = length-answers_of inside.width inside.indices.now inside.bytes.now in
    let from = c.args.place * inside.width in
    let size : from + inside.width - from ≡ inside.width = omega arith in
    c.new.ensures
    ∙ ap (λ (k : ℕ). record { index = get_or inside.indices.now c.args.place 0; payload = take k (drop from inside.bytes.now) }) size
    ∙ sym (answer_at-answers_of inside.width inside.indices.now inside.bytes.now c.args.place (omega (arith, n, ap length c.self.view_is)))
    ∙ ap (λ answers. answer_at answers c.args.place) c.self.view_is
