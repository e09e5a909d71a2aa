use Rattle.client_calls.specs.Answers.{given}
use Rattle.client_calls.proofs.Records.{all_recorded}
use Rattle.client_calls.proofs.judging.session_of.Goals as goal

pub returns-clause-all : goal.returns-clause-all
returns-clause-all c =
    all_recorded c.answer_len.result (given c.args.answers.now) c.in_ok-session.session c.add_records.new.session c.add_records.ensures
