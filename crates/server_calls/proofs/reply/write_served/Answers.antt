use Rattle.std.proofs.Common.{◌∙◌, ℕ, ◌+◌, refl, sym, ap}
use Rattle.wire_frames.specs.declared.sizes.TheConstants.{FRAME_HEADER_LEN}
use Rattle.server_calls.specs.Reply.{answers_by}
use Rattle.server_calls.proofs.Replying.{length-answers, length-reply}
use Rattle.server_calls.proofs.reply.write_served.Goals as goal

pub returns-then-out-size : goal.returns-then-out-size
returns-then-out-size c =
    let rows = c.args.rows.now in
    let body = length-answers rows.bytes.now rows.count rows.width c.args.scheme c.args.count c.args.vectors.now in
    let whole = length-reply c.args.header.now 0 (answers_by rows.bytes.now rows.count rows.width c.args.scheme c.args.count c.args.vectors.now) c.told-header in
    (refl, c.answer_len-size.ensures ∙ sym (whole ∙ ap (λ (n : ℕ). FRAME_HEADER_LEN + n) body), c.if-out-size.true, refl)
