use Rattle.std.proofs.Common.{◌∙◌, [], ap, subst, sym}
use Rattle.std.proofs.lemmas.Result.{IfOk-from_err}
use Rattle.wire_frames.specs.Limits.{IsInRange}
use Rattle.wire_frames.specs.Session.{Transcript}
use Rattle.wire_frames.specs.declared.session.SessionParams.{SessionParams}
use Rattle.query_rounds.proofs.gathering.room_for.Goals as goal

-- a session with no record yet
abbrev fresh : SessionParams → Transcript
fresh params = record { params = params; records = [] }

pub returns-in_err-new-clause-session : goal.returns-in_err-new-clause-session
returns-in_err-new-clause-session c = IfOk-from_err c.from_residual-in_err-new.result _ c.from_residual-in_err-new.ensures.0

pub returns-in_err-new-clause-frame : goal.returns-in_err-new-clause-frame
returns-in_err-new-clause-frame c = IfOk-from_err c.from_residual-in_err-new.result _ c.from_residual-in_err-new.ensures.0

pub returns-in_err-new-clause-answer : goal.returns-in_err-new-clause-answer
returns-in_err-new-clause-answer c = IfOk-from_err c.from_residual-in_err-new.result _ c.from_residual-in_err-new.ensures.0

pub returns-in_err-new-clause-reached : goal.returns-in_err-new-clause-reached
returns-in_err-new-clause-reached c = IfOk-from_err c.from_residual-in_err-new.result _ c.from_residual-in_err-new.ensures.0

pub returns-in_err-vec-clause-session : goal.returns-in_err-vec-clause-session
returns-in_err-vec-clause-session c = IfOk-from_err c.from_residual.result _ c.from_residual.ensures.0

pub returns-in_err-vec-clause-frame : goal.returns-in_err-vec-clause-frame
returns-in_err-vec-clause-frame c = IfOk-from_err c.from_residual.result _ c.from_residual.ensures.0

pub returns-in_err-vec-clause-answer : goal.returns-in_err-vec-clause-answer
returns-in_err-vec-clause-answer c = IfOk-from_err c.from_residual.result _ c.from_residual.ensures.0

pub returns-in_err-vec-clause-reached : goal.returns-in_err-vec-clause-reached
returns-in_err-vec-clause-reached c = IfOk-from_err c.from_residual.result _ c.from_residual.ensures.0

pub returns-in_err-vec-2-clause-session : goal.returns-in_err-vec-2-clause-session
returns-in_err-vec-2-clause-session c = IfOk-from_err c.from_residual-in_err-vec-2.result _ c.from_residual-in_err-vec-2.ensures.0

pub returns-in_err-vec-2-clause-frame : goal.returns-in_err-vec-2-clause-frame
returns-in_err-vec-2-clause-frame c = IfOk-from_err c.from_residual-in_err-vec-2.result _ c.from_residual-in_err-vec-2.ensures.0

pub returns-in_err-vec-2-clause-answer : goal.returns-in_err-vec-2-clause-answer
returns-in_err-vec-2-clause-answer c = IfOk-from_err c.from_residual-in_err-vec-2.result _ c.from_residual-in_err-vec-2.ensures.0

pub returns-in_err-vec-2-clause-reached : goal.returns-in_err-vec-2-clause-reached
returns-in_err-vec-2-clause-reached c = IfOk-from_err c.from_residual-in_err-vec-2.result _ c.from_residual-in_err-vec-2.ensures.0

pub returns-in_err-vec-3-clause-session : goal.returns-in_err-vec-3-clause-session
returns-in_err-vec-3-clause-session c = IfOk-from_err c.from_residual-in_err-vec-3.result _ c.from_residual-in_err-vec-3.ensures.0

pub returns-in_err-vec-3-clause-frame : goal.returns-in_err-vec-3-clause-frame
returns-in_err-vec-3-clause-frame c = IfOk-from_err c.from_residual-in_err-vec-3.result _ c.from_residual-in_err-vec-3.ensures.0

pub returns-in_err-vec-3-clause-answer : goal.returns-in_err-vec-3-clause-answer
returns-in_err-vec-3-clause-answer c = IfOk-from_err c.from_residual-in_err-vec-3.result _ c.from_residual-in_err-vec-3.ensures.0

pub returns-in_err-vec-3-clause-reached : goal.returns-in_err-vec-3-clause-reached
returns-in_err-vec-3-clause-reached c = IfOk-from_err c.from_residual-in_err-vec-3.result _ c.from_residual-in_err-vec-3.ensures.0

pub new-requires : goal.new-requires
new-requires c = subst IsInRange (sym c.params.ensures.is) c.params.ensures.range

pub returns-clause-session : goal.returns-clause-session
returns-clause-session c = c.in_ok-new.ensures ∙ ap fresh c.params.ensures.is

pub returns-clause-frame : goal.returns-clause-frame
returns-clause-frame c = c.in_ok-vec.ensures.len ∙ c.frame_len.ensures

pub returns-clause-answer : goal.returns-clause-answer
returns-clause-answer c = c.in_ok-vec-2.ensures.len ∙ c.answer_len.ensures

pub returns-clause-reached : goal.returns-clause-reached
returns-clause-reached c = c.in_ok-vec-3.ensures.len ∙ c.from.ensures ∙ c.servers.ensures.is
