use Rattle.std.proofs.Common.{◌≡◌, true, take}
use Rattle.std.specs.List.{list_all}
use Rattle.pir_words.specs.Numbers.{is_digit}
use Rattle.pir_words.proofs.values.are_digits.Given as goal

abbrev pub invariant-loop-c : goal.invariant-loop-c
invariant-loop-c l = list_all is_digit (take l.c-index l.text) ≡ true
