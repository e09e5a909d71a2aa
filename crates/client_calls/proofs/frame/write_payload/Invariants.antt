use Rattle.std.proofs.Common.{◌≡◌, ◌*◌, length, take}
use Rattle.wire_frames.specs.Turns.{in_turn}
use Rattle.query_rounds.specs.Plan.{query_params}
use Rattle.query_rounds.specs.Sent.{vector_at, vector_len}
use Rattle.client_calls.proofs.frame.write_payload.Given as goal

-- the vectors for the blocks so far are written
abbrev pub invariant-loop-i : goal.invariant-loop-i
invariant-loop-i l = record {
  written : take (l.i * vector_len l.asking.plan) l.out
      ≡ in_turn l.i (vector_at (query_params l.asking.plan 1 0) l.coins l.blocks l.index);
  size : length l.out ≡ length l.blocks * vector_len l.asking.plan;
}
