-- Bytes that are no session.
use Rattle.std.proofs.Common.{◌≡◌, ℕ, List, [], subst}
use Rattle.std.specs.Prelude.{Err}
use Rattle.wire_frames.specs.Reading.{Reading, SoFar, Feeds}
use Rattle.wire_frames.specs.Session.{IsSession}
use Rattle.wire_frames.specs.declared.reader.FeedFault.{FeedFault}
use Rattle.wire_frames.specs.declared.reader.FeedFault.TheVariants.{BadSession as Wrong, Memory as NoMemory}
use Rattle.wire_frames.proofs.StopPlaces.{stops-none}
use Rattle.client_calls.specs.Replaying.{ReadsSession, of_feed}

-- a reader that has seen nothing refuses the bytes
pub refused : (bytes : List ℕ) (reader new : Reading) (fault : FeedFault) → reader ≡ SoFar [] → Feeds reader bytes (Err fault) new
    → ReadsSession bytes (Err (of_feed fault))
refused bytes reader new (Wrong place) fresh fed =
    let fed' = subst (λ (r : Reading). Feeds r bytes (Err (Wrong place)) new) fresh fed in
    record { place_is = fed'.0; none = stops-none IsSession bytes place fed'.0 fed'.1 }
refused bytes reader new NoMemory fresh fed =
    let fed' = subst (λ (r : Reading). Feeds r bytes (Err NoMemory) new) fresh fed in fed'.2
