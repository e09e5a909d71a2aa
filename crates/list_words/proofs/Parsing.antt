-- What a parse by `clap` says.
use Rattle.std.proofs.Common.{◌≡◌, true, refl}
use Rattle.clap.specs.Words.{is_simple, is_simple_and_free}
use Rattle.clap.proofs.OnLiterals.{clap_on_literals}
use Rattle.list_words.specs.Command.{build_app, check_app, find_app, pir_list}

-- `clap` defines what words give to such a command
pub list_is_simple : is_simple pir_list ≡ true
unfolding clap_on_literals pir_list build_app find_app check_app
list_is_simple = refl

-- and which words it takes
pub list_is_free : is_simple_and_free pir_list ≡ true
unfolding clap_on_literals pir_list build_app find_app check_app
list_is_free = refl
