use Rattle.std.proofs.Common.{◌≡◌, ◌*◌, length, take}
use Rattle.wire_frames.specs.Scheme.{payload_len}
use Rattle.wire_frames.specs.Turns.{in_turn, piece}
use Rattle.serve_core.specs.Reply.{answer}
use Rattle.server_calls.specs.Held.{database_of}
use Rattle.server_calls.proofs.sums.write_answers.Given as goal

-- the answers so far are written
abbrev pub invariant-loop-i : goal.invariant-loop-i
invariant-loop-i l = record {
  written : take (l.i * l.rows.width) l.out ≡ in_turn l.i (λ i. answer l.scheme
      (database_of l.rows.bytes.now l.rows.count l.rows.width) (piece (payload_len l.scheme l.rows.count) i l.vectors));
  size : length l.out ≡ l.count * l.rows.width;
}
