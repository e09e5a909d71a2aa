use Rattle.std.proofs.Common.{◌≡◌, ◌≤◌, length}
use Rattle.client_calls.proofs.FirstAnswers.{first_of}
use Rattle.client_calls.proofs.liars.usable_count.Given as goal

-- the usable answers of the first servers are counted
abbrev pub invariant-loop-place : goal.invariant-loop-place
invariant-loop-place l = record {
  counted : l.count ≡ length (first_of l.session l.place);
  few : l.count ≤ l.place;
}
