use Rattle.commands.proofs.ending.ending_of_run.Goals as goal

pub returns : goal.returns
returns g c = record {
  ran = record {
    refuses = c.run-status.ensures.words;
    outcome = c.run-status.ensures.outcome;
    headline = c.run-status.ensures.headline;
    promise = c.run-status.ensures.promise;
  };
  code = c.ending_of.ensures.code;
  line = c.ending_of.ensures.line;
}
