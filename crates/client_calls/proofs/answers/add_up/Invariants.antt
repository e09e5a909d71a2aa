use Rattle.std.proofs.Common.{◌≡◌, ◌+◌, take}
use Rattle.client_calls.specs.Answers.{total}
use Rattle.client_calls.proofs.answers.add_up.Given as goal

-- what is left, and the lengths so far, are the whole
abbrev pub invariant-loop-length : goal.invariant-loop-length
invariant-loop-length l = l.left + total (take l.length-index l.lengths) ≡ l.whole
