use Rattle.std.proofs.Common.{◌≡◌, map, take, string_bytes}
use Rattle.pir_ports.specs.WordList.{with_words}
use Rattle.pir_ports.proofs.words.Words.push_all.Given as goal

abbrev pub invariant-loop-word : goal.invariant-loop-word
invariant-loop-word l = l.self ≡ with_words (map string_bytes (take l.word-index l.words)) l.fn.self
