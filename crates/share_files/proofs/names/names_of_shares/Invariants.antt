use Rattle.std.proofs.Common.{◌≡◌, map, string_bytes, vec_len}
use Rattle.std.specs.List.{range_with_len}
use Rattle.share_files.specs.SplitPlan.{share_name}
use Rattle.share_files.proofs.names.names_of_shares.Given as goal

-- the names of the servers before this one are there
abbrev pub invariant-servers : goal.invariant-servers
invariant-servers l = record {
  so_far : map string_bytes l.names.items ≡ map (share_name l.into) (range_with_len 1 l.i);
  count : vec_len l.names ≡ l.i;
}
