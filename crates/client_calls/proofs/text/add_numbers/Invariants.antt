use Rattle.std.proofs.Common.{◌≡◌, ◌++◌, take}
use Rattle.std.specs.Prelude.{flat_map}
use Rattle.block_decoder.specs.Text.{number_word}
use Rattle.client_calls.proofs.text.add_numbers.Given as goal

-- the numbers so far are added
abbrev pub invariant-loop-n : goal.invariant-loop-n
invariant-loop-n l = l.text.items ≡ l.initial.text.items ++ flat_map number_word (take l.n-index l.numbers)
