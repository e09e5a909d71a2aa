use Rattle.std.proofs.Common.{◌≡◌, length, take}
use Rattle.client_calls.proofs.Joined.{together}
use Rattle.client_calls.proofs.listing.joined_len.Given as goal

-- the blocks so far have so many bytes
abbrev pub invariant-loop-block : goal.invariant-loop-block
invariant-loop-block l = l.size ≡ length (together (take l.block-index l.blocks))
