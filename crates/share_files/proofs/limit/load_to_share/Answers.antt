use Rattle.std.proofs.Common.{Err, subst, arith}
use Rattle.block_matrix.specs.Loading.{Loads}
use Rattle.block_matrix.specs.declared.matrix.LoadFault.{LoadFault}
use Rattle.share_files.proofs.Limits.{holds_few, holds_more, holds_too_many}
use Rattle.share_files.proofs.limit.load_to_share.Goals as goal

pub returns-in-Err-TooBig-clause-loads : goal.returns-in-Err-TooBig-clause-loads
returns-in-Err-TooBig-clause-loads g c =
    let old = g.P.Ports.world c.args.ports.now in
    let new = g.P.Ports.world c.load.new.ports in
    let loads = subst (λ (e : LoadFault). Loads c.args.width (Err e) old new) c.in-Err-TooBig.field-0-is c.in-Err-TooBig.ensures.loads in
    (c.most_bytes_shared-limit.ensures, holds_more c.args.width c.args.tau _ _ (omega (arith, c.requires.some)) c.requires.tau loads.1)

pub returns-then-bytes-limit-clause-loads : goal.returns-then-bytes-limit-clause-loads
returns-then-bytes-limit-clause-loads g c = (
  c.most_bytes_shared-limit.ensures,
  holds_too_many c.args.width c.args.tau c.in-Ok.matrix _ _ (omega (arith, c.requires.some)) c.in-Ok.ensures.loads
      (omega (arith, c.if-bytes-limit.true, c.bytes.ensures.size, c.most_bytes_shared-limit.ensures)),
)

pub returns-clause-loads : goal.returns-clause-loads
returns-clause-loads g c =
    holds_few c.args.width c.args.tau c.in-Ok.matrix _ _ (omega (arith, c.requires.some)) c.in-Ok.ensures.loads
    (omega (arith, c.if-bytes-limit.false, c.bytes.ensures.size, c.most_bytes_shared-limit.ensures))
