-- The usable answer of one server of a session.
use Rattle.std.specs.Prelude.{ℕ, ◌-◌, List, slice_index_or, Option, None, option_and_then}
use Rattle.wire_frames.specs.Answer.{asked, usable}
use Rattle.wire_frames.specs.Session.{Transcript}

-- the payload of server i, counted from 1, where its answer is usable
abbrev pub payload_of : Transcript → ℕ → Option (List ℕ)
payload_of session i =
    option_and_then (λ bytes. usable bytes (asked session.params i)) (slice_index_or session.records (i - 1) None)
