use Rattle.std.proofs.Common.{◌∙◌}
use Rattle.commands.proofs.serve_command.listen.Goals as goal

pub returns-in_default-clause-others : goal.returns-in_default-clause-others
returns-in_default-clause-others g c =
    let first = c.open.ensures.others in
    record { others = λ q l to_tell to_meet. first.others q l to_meet; crowd = first.crowd; started = first.started }

pub returns-clause-others : goal.returns-clause-others
returns-clause-others g c =
    let first = c.open.ensures.others in
    let told = c.write_all.ensures.others in
    record {
      others = λ q l to_tell to_meet. told.others q l to_tell ∙ first.others q l to_meet;
      crowd = told.crowd ∙ first.crowd;
      started = told.started ∙ first.started;
    }
