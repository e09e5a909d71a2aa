use Rattle.std.proofs.Common.{◌∙◌, refl}
use Rattle.std.proofs.lemmas.Result.{IfOk-weaker}
use Rattle.pir_words.specs.Form.{pir}
use Rattle.pir_words.proofs.asked.pir_command.Goals as goal

pub returns : goal.returns
unfolding pir
returns c = IfOk-weaker c.pir_with.result _ _ (λ r adds. adds.app ∙ refl) c.pir_with.ensures
