use Rattle.std.proofs.Common.{length, ap, sym, ◌∙◌}
use Rattle.block_decoder.proofs.Agreed.{length-answers_of}
use Rattle.block_decoder.proofs.answers.PackedAnswers.len.Goals as goal

pub returns : goal.returns
returns c = sym (length-answers_of c.self.inside.width c.self.inside.indices.now c.self.inside.bytes.now) ∙ ap length c.self.view_is
