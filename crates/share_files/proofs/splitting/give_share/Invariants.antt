use Rattle.std.proofs.Common.{◌≡◌, ◌-◌, ◌≤◌, length}
use Rattle.port_trait.specs.Number.{share_file}
use Rattle.port_trait.specs.Moves.{Touches, gave}
use Rattle.share_bytes.proofs.Shares.{first_shares}
use Rattle.share_files.proofs.splitting.give_share.Given as goal

-- the shares of the positions before this one are given
abbrev pub invariant-pieces : goal.invariant-pieces
invariant-pieces g l = record {
  within : l.at ≤ length l.bytes;
  size : length l.room ≡ length l.initial.room;
  so_far : (g.P.Ports.world l.ports).at (share_file l.index)
      ≡ gave (first_shares l.bytes l.coins l.tau l.at l.index) ((g.P.Ports.world l.initial.ports).at (share_file l.index));
  others : Touches (share_file l.index) (g.P.Ports.world l.initial.ports) (g.P.Ports.world l.ports);
}

abbrev pub decreases-pieces : goal.decreases-pieces
decreases-pieces g l = length l.bytes - l.at
