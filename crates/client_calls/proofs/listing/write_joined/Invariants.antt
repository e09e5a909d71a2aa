use Rattle.std.proofs.Common.{◌≡◌, length, take}
use Rattle.client_calls.proofs.Joined.{together}
use Rattle.client_calls.proofs.listing.write_joined.Given as goal

-- the blocks so far are written
abbrev pub invariant-loop-block : goal.invariant-loop-block
invariant-loop-block l = record {
  start : l.start ≡ length (together (take l.block-index l.blocks));
  written : take l.start l.out ≡ together (take l.block-index l.blocks);
  size : length l.out ≡ length (together l.blocks);
}
