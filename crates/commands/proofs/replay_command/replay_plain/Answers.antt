use Rattle.std.proofs.Common.{◌∙◌, false, sym, subst}
use Rattle.replay.specs.Replayed.{Judged}
use Rattle.commands.specs.ReplayOutcome.{ReplayEnds}
use Rattle.commands.specs.declared.status.Status.{Status}
use Rattle.commands.proofs.Replaying.{unjudged, unopened, plain_told}
use Rattle.commands.proofs.replay_command.replay_plain.Goals as goal

pub returns-in-Ok-replay_uncounted-clause-ends : goal.returns-in-Ok-replay_uncounted-clause-ends
returns-in-Ok-replay_uncounted-clause-ends g c =
    plain_told _ _ _ _ _ _ _ c.in-Ok.ensures.ok c.open.ensures.others c.in-Ok-replay_uncounted.ensures.replayed c.replay_uncounted.ensures.others c.report.ensures.told c.report.ensures.others

pub returns-in_default-clause-ends : goal.returns-in_default-clause-ends
returns-in_default-clause-ends g c = unopened _ false _ _ c.in_default.ensures.failed c.open.ensures.others

pub returns-in_default-clause-others : goal.returns-in_default-clause-others
returns-in_default-clause-others g c =
    let first = c.open.ensures.others in
    record { others = λ q l to_read to_tell. first.others q l to_read; crowd = first.crowd; started = first.started }

pub returns-in-Err-clause-ends : goal.returns-in-Err-clause-ends
returns-in-Err-clause-ends g c =
    subst (λ (s : Status). ReplayEnds c.args.name.now false s (g.P.Ports.world c.args.ports.now) (g.P.Ports.world c.replay_uncounted.new.ports)) (sym c.into.ensures)
    (unjudged _ _ _ _ _ c.in-Ok.ensures.ok c.open.ensures.others c.replay_uncounted.ensures.others Judged c.in-Err.fault c.in-Err.ensures.replayed)

pub returns-in-Err-clause-others : goal.returns-in-Err-clause-others
returns-in-Err-clause-others g c =
    let first = c.open.ensures.others in
    let read = c.replay_uncounted.ensures.others in
    record {
      others = λ q l to_read to_tell. read.others q l to_read ∙ first.others q l to_read;
      crowd = read.crowd ∙ first.crowd;
      started = read.started ∙ first.started;
    }

pub returns-in-Ok-replay_uncounted-clause-others : goal.returns-in-Ok-replay_uncounted-clause-others
returns-in-Ok-replay_uncounted-clause-others g c =
    let first = c.open.ensures.others in
    let read = c.replay_uncounted.ensures.others in
    let told = c.report.ensures.others in
    record {
      others = λ q l to_read to_tell. told.others q l to_tell ∙ read.others q l to_read ∙ first.others q l to_read;
      crowd = told.crowd ∙ read.crowd ∙ first.crowd;
      started = told.started ∙ read.started ∙ first.started;
    }
