use Rattle.std.proofs.Common.{◌≡◌, ◌+◌, ◌<◌, ℕ, length}
use Rattle.std.specs.Prelude.{slice_index}
use Rattle.block_decoder.specs.Usable.{payload_of}
use Rattle.client_calls.specs.Liars.{IsStanding}
use Rattle.client_calls.proofs.liars.write_standings.Given as goal

-- of the servers so far it is said what they did
abbrev pub invariant-loop-place : goal.invariant-loop-place
invariant-loop-place l = record {
  said : (place : ℕ) → place < l.place → IsStanding l.indices (place + 1) (payload_of l.session (place + 1)) (slice_index l.who place);
  size : length l.who ≡ l.session.params.n;
}
