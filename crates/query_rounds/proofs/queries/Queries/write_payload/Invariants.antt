use Rattle.std.proofs.Common.{◌≡◌, ◌*◌, length, take}
use Rattle.wire_frames.specs.Scheme.{scheme_of, payload_len}
use Rattle.wire_frames.specs.Turns.{in_turn}
use Rattle.query_rounds.specs.Plan.{query_params}
use Rattle.query_rounds.specs.Sent.{queries_from, vector_at}
use Rattle.query_rounds.proofs.queries.Queries.write_payload.Given as goal

-- the vectors for the blocks so far are written
abbrev pub invariant-loop-i : goal.invariant-loop-i
invariant-loop-i l = record {
  written : take (l.i * payload_len (scheme_of l.self.plan.scheme) l.self.plan.r) l.out
      ≡ in_turn l.i (vector_at (query_params l.self.plan 1 0) (queries_from l.self.coins) l.self.blocks l.index);
  size : length l.out ≡ length l.self.blocks * payload_len (scheme_of l.self.plan.scheme) l.self.plan.r;
}
