use Rattle.std.proofs.Common.{refl}
use Rattle.pir_words.specs.Numbers.{given}
use Rattle.list_words.proofs.Entered.{comes_at, comes_none}
use Rattle.list_words.proofs.read.read_matches.Goals as goal

pub returns-in-Some : goal.returns-in-Some
returns-in-Some c =
    comes_at _ _ _ c.in-Some.name.now (given c.in-Some.inner.now) c.read_command.result c.in-Some.ensures.name c.in-Some.ensures.rows c.read_command.ensures

pub returns-in-None : goal.returns-in-None
returns-in-None c = comes_none _ _ _ c.in-None.ensures.variant refl
