use Rattle.std.proofs.lemmas.Result.{IfOk-from_err, MatchResult-from_err}
use Rattle.std.proofs.Common.{refl, length}
use Rattle.std.proofs.Math.Nat.{le-add_right}
use Rattle.block_decoder.proofs.agreements.Report.add.Goals as goal

pub returns-clause-ok : goal.returns-clause-ok
returns-clause-ok c = rw c.in_ok-new.ensures at c.insert.ensures.ok

pub returns-in_err-new-clause-ascending : goal.returns-in_err-new-clause-ascending
returns-in_err-new-clause-ascending c = c.requires

pub returns-in_err-new-clause-ok : goal.returns-in_err-new-clause-ok
returns-in_err-new-clause-ok c = IfOk-from_err c.from_residual.result _ c.from_residual.ensures.0

pub returns-in_err-new-clause-err : goal.returns-in_err-new-clause-err
returns-in_err-new-clause-err c = MatchResult-from_err c.from_residual.result _ _ c.from_residual.ensures.0 (λ _. refl)

pub returns-clause-ascending : goal.returns-clause-ascending
returns-clause-ascending c = c.insert.ensures.ascending

pub returns-clause-err : goal.returns-clause-err
returns-clause-err c = c.insert.ensures.err

pub returns-clause-one : goal.returns-clause-one
returns-clause-one c = c.insert.ensures.one

pub returns-in_err-new-clause-one : goal.returns-in_err-new-clause-one
returns-in_err-new-clause-one c = le-add_right (length c.args.self.now) 1
