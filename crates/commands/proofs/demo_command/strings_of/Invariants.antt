use Rattle.std.proofs.Common.{◌≡◌, map, take, string_bytes}
use Rattle.commands.proofs.demo_command.strings_of.Given as goal

-- the words before this one are there
abbrev pub invariant-words : goal.invariant-words
invariant-words l = map string_bytes l.words.items ≡ map (λ t. t.now) (take l.text-index l.texts)
