use Rattle.std.proofs.Common.{inl, subst, arith}
use Rattle.share_bytes.proofs.Shares.{length-share}
use Rattle.share_files.specs.Sharing.{LeavesShare, Sharing}
use Rattle.share_files.proofs.splitting.write_share.Goals as goal

pub returns-in_default-clause-failed : goal.returns-in_default-clause-failed
returns-in_default-clause-failed g c =
    let inside = c.sharing.inside in
    subst (λ (s : Sharing). LeavesShare s c.args.index c.args.name.now (g.P.Ports.world c.args.ports.now) (g.P.Ports.world c.open.new.self)) c.sharing.view_is
    (record {
      n = 0;
      proper = omega (arith, c.sharing.invariant.some, length-share inside.bytes.now inside.coins.now inside.tau c.args.index);
      cell = inl c.in_default.ensures.failed.cell;
      rose = c.in_default.ensures.failed.rose;
    })
