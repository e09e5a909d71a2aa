-- How far bytes are right: what begins some session, and the place at which bytes stop doing so.
use Rattle.std.specs.Prelude.{ℕ, List}
use Rattle.wire_frames.specs.Form.{Starts, StopsAt}
use Rattle.wire_frames.specs.Session.{IsSession}

-- some session's file begins with these bytes
abbrev pub Begins : List ℕ → Type 0
Begins bytes = Starts IsSession bytes

-- the longest prefix of the bytes that begins some session has this length
abbrev pub IsPlace : List ℕ → ℕ → Type 0
IsPlace bytes place = StopsAt IsSession bytes place
