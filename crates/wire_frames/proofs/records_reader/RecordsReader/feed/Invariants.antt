use Rattle.std.proofs.Common.{length, take, ◌++◌, ◌-◌, ◌≡◌, ◌≤◌}
use Rattle.wire_frames.specs.RecordsReader.{IsOpen, bytes_so_far}
use Rattle.wire_frames.proofs.records_reader.RecordsReader.feed.Given as goal

abbrev pub invariant-loop-at : goal.invariant-loop-at
invariant-loop-at l = record {
  reach : l.at ≤ length l.piece;
  «open» : IsOpen l.self;
  seen : bytes_so_far l.self ≡ bytes_so_far l.fn.self ++ take l.at l.piece;
}

abbrev pub decreases-loop-at : goal.decreases-loop-at
decreases-loop-at l = length l.piece - l.at
