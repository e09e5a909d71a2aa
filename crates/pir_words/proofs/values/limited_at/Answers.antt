use Rattle.std.proofs.Common.{arith, sym}
use Rattle.std.proofs.lemmas.Bool.{and_from, cond-true, le-leb}
use Rattle.pir_words.specs.Numbers.{limited}
use Rattle.pir_words.proofs.Chains.{given_on}
use Rattle.pir_words.proofs.values.limited_at.Goals as goal

pub returns-in-Some-clause-value : goal.returns-in-Some-clause-value
unfolding limited
returns-in-Some-clause-value c = sym (given_on _ c.in-Some.ensures (cond-true _ _ _ (and_from _ _ (le-leb c.args.least c.in-Some.n (omega arith)) (le-leb c.in-Some.n c.args.most (omega arith)))))
