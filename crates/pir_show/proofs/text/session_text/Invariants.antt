use Rattle.std.proofs.Common.{◌≡◌, ◌++◌, string_bytes}
use Rattle.pir_show.specs.Text.{number_lines, server_lines}
use Rattle.pir_show.proofs.text.session_text.Given as goal

abbrev pub invariant-loop-i : goal.invariant-loop-i
invariant-loop-i l = string_bytes l.text ≡ number_lines l.session.params ++ server_lines l.session l.i
