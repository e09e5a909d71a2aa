use Rattle.std.proofs.Common.{◌≡◌, ◌*◌, length, take}
use Rattle.wire_frames.specs.Turns.{in_turn}
use Rattle.shard_front.specs.Spread.{rows_in}
use Rattle.shard_front.specs.Parts.{slice_at}
use Rattle.shard_front.proofs.parts.write_slices.Given as goal

-- the slices of the vectors so far are written
abbrev pub invariant-loop-v : goal.invariant-loop-v
invariant-loop-v l = record {
  written : take (l.v * rows_in l.spread l.place) l.out ≡ in_turn l.v (slice_at l.spread l.place l.vectors);
  size : length l.out ≡ l.count * rows_in l.spread l.place;
}
