use Rattle.std.proofs.Common.{ℕ, ◌<◌, ◌≢◌}
use Rattle.list_finds.specs.Answers.{answer_to}
use Rattle.list_finds.specs.declared.answers.Answer.TheVariants.{Broken}
use Rattle.list_finds.proofs.answers.Answers.first_broken.Given as goal

abbrev pub invariant-loop-i : goal.invariant-loop-i
invariant-loop-i l = (j : ℕ) → j < l.i → answer_to l.self.answers j ≢ Broken
