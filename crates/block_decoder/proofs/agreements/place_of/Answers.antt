use Rattle.std.proofs.Common.{rules}
use Rattle.std.proofs.lemmas.Fn.{always_returns_same}
use Rattle.block_decoder.specs.Report.{agreement_cmp}
use Rattle.block_decoder.proofs.agreements.place_of.Goals as goal

pub returns-clause-place : goal.returns-clause-place
returns-clause-place c = c.binary_search_by.ensures.position (λ a. agreement_cmp a c.args.agreement.now) (always_returns_same _ _ _ (λ a r f called. (search rules, search rules)))
