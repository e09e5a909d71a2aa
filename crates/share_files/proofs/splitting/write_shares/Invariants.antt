use Rattle.std.proofs.Common.{◌≡◌, ◌<◌, length, map, string_bytes}
use Rattle.port_trait.specs.Number.{share_file}
use Rattle.port_trait.specs.Each.{TouchesRange}
use Rattle.share_files.specs.Splits.{SharesEach}
use Rattle.share_files.proofs.splitting.write_shares.Given as goal

-- the shares of the servers before this one are written
abbrev pub invariant-shares : goal.invariant-shares
invariant-shares g l = record {
  number : l.index ≡ l.name-index;
  size : 0 < length l.room;
  so_far : SharesEach (map string_bytes l.names) l.sharing l.name-index (g.P.Ports.world l.initial.ports) (g.P.Ports.world l.ports);
  others : TouchesRange (share_file 1) l.name-index (g.P.Ports.world l.initial.ports) (g.P.Ports.world l.ports);
}
