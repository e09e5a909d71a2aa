use Rattle.std.proofs.Common.{◌∙◌, true, sym, subst}
use Rattle.replay.specs.Replayed.{JudgedWhole}
use Rattle.commands.specs.ReplayOutcome.{ReplayEnds}
use Rattle.commands.specs.declared.status.Status.{Status}
use Rattle.commands.proofs.Replaying.{unjudged, unopened, whole_told}
use Rattle.commands.proofs.Saying.{report_of}
use Rattle.commands.proofs.replay_command.replay_whole.Goals as goal

pub report_whole-requires : goal.report_whole-requires
report_whole-requires g c =
    let read = c.in-Ok-replay_whole_uncounted.ensures.replayed in
    report_of _ _ read.is.whole.range.scheme true _ read.is.report

pub returns-in-Ok-replay_whole_uncounted-clause-ends : goal.returns-in-Ok-replay_whole_uncounted-clause-ends
returns-in-Ok-replay_whole_uncounted-clause-ends g c =
    whole_told _ _ _ _ _ _ _ _ _ c.in-Ok.ensures.ok c.open.ensures.others c.in-Ok-replay_whole_uncounted.ensures.replayed c.replay_whole_uncounted.ensures.others c.report_whole.ensures.told c.report_whole.ensures.others

pub returns-in_default-clause-ends : goal.returns-in_default-clause-ends
returns-in_default-clause-ends g c = unopened _ true _ _ c.in_default.ensures.failed c.open.ensures.others

pub returns-in_default-clause-others : goal.returns-in_default-clause-others
returns-in_default-clause-others g c =
    let first = c.open.ensures.others in
    record { others = λ q l to_read to_tell. first.others q l to_read; crowd = first.crowd; started = first.started }

pub returns-in-Err-clause-ends : goal.returns-in-Err-clause-ends
returns-in-Err-clause-ends g c =
    subst (λ (s : Status). ReplayEnds c.args.name.now true s (g.P.Ports.world c.args.ports.now) (g.P.Ports.world c.replay_whole_uncounted.new.ports)) (sym c.into.ensures)
    (unjudged _ _ _ _ _ c.in-Ok.ensures.ok c.open.ensures.others c.replay_whole_uncounted.ensures.others JudgedWhole c.in-Err.fault c.in-Err.ensures.replayed)

pub returns-in-Err-clause-others : goal.returns-in-Err-clause-others
returns-in-Err-clause-others g c =
    let first = c.open.ensures.others in
    let read = c.replay_whole_uncounted.ensures.others in
    record {
      others = λ q l to_read to_tell. read.others q l to_read ∙ first.others q l to_read;
      crowd = read.crowd ∙ first.crowd;
      started = read.started ∙ first.started;
    }

pub returns-in-Ok-replay_whole_uncounted-clause-others : goal.returns-in-Ok-replay_whole_uncounted-clause-others
returns-in-Ok-replay_whole_uncounted-clause-others g c =
    let first = c.open.ensures.others in
    let read = c.replay_whole_uncounted.ensures.others in
    let told = c.report_whole.ensures.others in
    record {
      others = λ q l to_read to_tell. told.others q l to_tell ∙ read.others q l to_read ∙ first.others q l to_read;
      crowd = told.crowd ∙ read.crowd ∙ first.crowd;
      started = told.started ∙ read.started ∙ first.started;
    }
