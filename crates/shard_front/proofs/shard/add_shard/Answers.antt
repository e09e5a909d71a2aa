use Rattle.std.proofs.Common.{◌∙◌}
use Rattle.shard_front.proofs.shard.add_shard.Goals as goal

pub ask_part-requires-clause-part : goal.ask_part-requires-clause-part
ask_part-requires-clause-part g c = c.as_mut_slice-part.ensures.len ∙ c.requires.fits.part

pub ask_part-requires-clause-answer : goal.ask_part-requires-clause-answer
ask_part-requires-clause-answer g c = c.as_mut_slice-answer.ensures.len ∙ c.requires.fits.answer
