use Rattle.std.proofs.Common.{◌∙◌, ap, map, string_bytes, arith}
use Rattle.share_files.proofs.NamesInTurn.{name_next}
use Rattle.share_files.proofs.names.names_of_shares.Goals as goal

pub servers-preserved : goal.servers-preserved
servers-preserved c = record {
  so_far = ap (map string_bytes) c.in_ok-push.ensures.items
      ∙ name_next string_bytes c.args.into.now c.servers.i c.servers.names.items c.in_ok-name_of_share.field-0
      c.servers.invariant.so_far c.in_ok-name_of_share.ensures;
  count = omega (arith, c.in_ok-push.ensures.len, c.servers.invariant.count);
}
