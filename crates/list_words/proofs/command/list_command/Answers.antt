use Rattle.std.proofs.Common.{◌∙◌, refl}
use Rattle.std.proofs.lemmas.Result.{IfOk-weaker}
use Rattle.list_words.specs.Command.{build_app, check_app, find_app, pir_list}
use Rattle.list_words.proofs.command.list_command.Goals as goal

pub returns : goal.returns
unfolding pir_list build_app find_app check_app
returns c = IfOk-weaker c.list_with.result _ _ (λ r adds. adds.app ∙ refl) c.list_with.ensures
