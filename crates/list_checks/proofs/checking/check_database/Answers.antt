use Rattle.std.proofs.Common.{◌≡◌, ◌∙◌, ℕ, List, inl, refl, sym, ap, subst, arith}
use Rattle.std.specs.Prelude.{Result, Err}
use Rattle.std.proofs.lemmas.Result.{err_from_is_err_and}
use Rattle.port_trait.specs.World.{World}
use Rattle.list_checks.specs.Checks.{Checks}
use Rattle.list_checks.specs.declared.claim.Claim.{Claim}
use Rattle.list_checks.specs.declared.fault.CheckFault.{CheckFault}
use Rattle.list_checks.specs.declared.fault.CheckFault.TheVariants.{Memory}
use Rattle.list_checks.specs.declared.tally.Tally.{Tally}
use Rattle.list_checks.proofs.Steps.{opened_checks}
use Rattle.list_checks.proofs.checking.check_database.Goals as goal

-- for want of memory nothing is touched
none_touched : (claim : Claim) (name : List ℕ) (result : Result Tally CheckFault) (fault : CheckFault) (w : World)
    → result ≡ Err fault → fault ≡ Memory → Checks claim name result w w
none_touched claim name result fault w is out =
    subst (λ (r : Result Tally CheckFault). Checks claim name r w w) (sym (is ∙ ap Err out)) refl

pub returns-in_err-room-clause-checks : goal.returns-in_err-room-clause-checks
returns-in_err-room-clause-checks g c =
    let p = err_from_is_err_and c.from_residual.result c.from_residual.ensures.1 in
    none_touched c.args.claim.now c.args.name.now c.from_residual.result p.0 (g.P.Ports.world c.args.ports.now) p.1 p.2

pub returns-in_default-clause-checks : goal.returns-in_default-clause-checks
returns-in_default-clause-checks g c = record {
  n = 0;
  fewer = omega arith;
  cell = inl c.in_default.ensures.failed.cell;
  rose = c.in_default.ensures.failed.rose;
}

pub returns-clause-checks : goal.returns-clause-checks
returns-clause-checks g c =
    opened_checks c.args.claim.now c.args.name.now (g.P.Ports.world c.args.ports.now) (g.P.Ports.world c.open.new.self)
    (g.P.Ports.world c.check_opened.new.ports) c.in-Ok.ensures.ok c.check_opened.result c.check_opened.ensures.finds
