use Rattle.std.proofs.Common.{◌∙◌, ◌||◌, Bool, sym, ap}
use Rattle.wire_frames.specs.Scheme.{payload_len}
use Rattle.wire_frames.specs.Turns.{piece}
use Rattle.serve_core.specs.Case.{sets_unused}
use Rattle.server_calls.proofs.Guests.{sets_more}
use Rattle.server_calls.proofs.judging.some_is_overfull.Goals as goal
use Rattle.server_calls.proofs.judging.some_is_overfull.Goals.{then-overfull, else-overfull}

pub loop-i-preserved : goal.loop-i-preserved
loop-i-preserved c =
    let scheme = c.args.scheme in
    let rows = c.args.rows in
    let query = c.args.query.now in
    let more = sets_more scheme rows c.args.width c.loop-i.i query in
    elim c.if-overfull.branch [
      | then-overfull w ↦
          w.overfull-is ∙ w.if-overfull.true
          ∙ sym (more ∙ ap (λ (b : Bool). b || sets_unused scheme rows (piece (payload_len scheme rows) c.loop-i.i query)) (sym c.loop-i.invariant ∙ w.if-overfull.true))
      | else-overfull w ↦
          w.overfull-is ∙ w.is_overfull-overfull.ensures ∙ ap (sets_unused scheme rows) w.vector_at.ensures.is
          ∙ sym (more ∙ ap (λ (b : Bool). b || sets_unused scheme rows (piece (payload_len scheme rows) c.loop-i.i query)) (sym c.loop-i.invariant ∙ w.if-overfull.false))
    ]
