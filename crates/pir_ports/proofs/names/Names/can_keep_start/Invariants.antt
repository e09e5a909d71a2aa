use Rattle.std.proofs.Common.{◌≡◌, ◌+◌, drop, map, string_bytes}
use Rattle.pir_ports.specs.WordList.{total}
use Rattle.pir_ports.proofs.names.Names.can_keep_start.Given as goal

abbrev pub invariant-loop-word : goal.invariant-loop-word
invariant-loop-word l = l.left + total (map string_bytes l.words) ≡ l.initial.left + total (map string_bytes (drop l.word-index l.words))
