use Rattle.std.proofs.Common.{◌≡◌, false, rules, subst, sym}
use Rattle.std.specs.Prelude.{is_some}
use Rattle.wire_frames.specs.Answer.{usable}
use Rattle.wire_frames.specs.Cause.{Tells}
use Rattle.wire_frames.proofs.Causes.{tells_fault}
use Rattle.wire_frames.proofs.cause.why.Goals as goal

pub returns-else-is_some-clause-tells : goal.returns-else-is_some-clause-tells
returns-else-is_some-clause-tells c =
    let bytes = c.args.bytes.now in
    let q = c.args.header.now in
    let not_usable : is_some (usable bytes q) ≡ false = search rules in
    subst (λ cause. Tells cause bytes q) (sym c.fault_of.ensures) (tells_fault bytes q not_usable)
