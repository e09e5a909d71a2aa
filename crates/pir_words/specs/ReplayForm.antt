-- The form of `replay`.
use Rattle.std.specs.Prelude.{List, Option, Some, codes}
use Rattle.clap.specs.Words.{App, Row, first_of, new_app, with_rule}
use Rattle.pir_words.specs.Chain.{◌>>=◌}
use Rattle.pir_words.specs.Command.{operand_rule, with_flag}
use Rattle.pir_words.specs.Numbers.{flag_in}
use Rattle.pir_words.specs.declared.asked.Asked.{Asked}
use Rattle.pir_words.specs.declared.asked.Asked.TheVariants.{Replay}

-- `replay FILE --report`
abbrev pub replay_app : App
replay_app =
    let reported = with_flag (new_app (codes "replay")) (codes "report") in
    with_rule reported (operand_rule (codes "file"))

-- `replay` with its file, and whether a report is wanted
unfoldable pub replay_of : List Row → Option Asked
replay_of m = do
  file ← first_of (codes "file") m
  Some (Replay file (flag_in (codes "report") m))
