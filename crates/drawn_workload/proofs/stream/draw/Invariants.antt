use Rattle.std.proofs.Common.{◌≡◌, ◌*◌, ◌-◌, ◌<◌, ◌≤◌, vec_len}
use Rattle.drawn_workload.specs.Stream.{drawn, key_by}
use Rattle.drawn_workload.proofs.stream.draw.Given as goal

-- Whole words were drawn so far, but maybe for the last piece.
abbrev pub invariant-pieces : goal.invariant-pieces
invariant-pieces l = record {
  few : vec_len l.bytes ≤ l.count;
  so_far : l.bytes.items ≡ drawn l.seed 0 (vec_len l.bytes);
  key : l.rng.key ≡ key_by l.seed;
  first_stream : l.rng.stream ≡ 0;
  within : l.rng.word_pos ≤ vec_len l.bytes;
  words : vec_len l.bytes < l.count → vec_len l.bytes ≡ 4 * l.rng.word_pos;
}

abbrev pub decreases-pieces : goal.decreases-pieces
decreases-pieces l = l.count - vec_len l.bytes
