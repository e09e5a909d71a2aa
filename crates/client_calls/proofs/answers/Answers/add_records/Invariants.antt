use Rattle.std.proofs.Common.{◌≡◌, take}
use Rattle.client_calls.specs.Answers.{given, records_of, total}
use Rattle.client_calls.proofs.answers.Answers.add_records.Given as goal

-- the servers so far have their records
abbrev pub invariant-loop-place : goal.invariant-loop-place
invariant-loop-place l = record {
  session : l.session ≡ record l.initial.session { records = records_of l.most l.place (given l.self) };
  start : l.start ≡ total (take l.place l.self.lengths.now);
}
