-- What a server replies to a guest, written where the caller has room for it.
use Rattle.std.specs.Prelude.{ℕ, ◌≡◌, ◌/◌, ◌<◌, ◌≤◌, ◌⊎◌, List, ◌++◌, length, drop, Option, Some, None, Result, Ok, Err}
use Rattle.wire_frames.specs.declared.scheme.TheConstants.{SHAMIR, XOR}
use Rattle.wire_frames.specs.declared.scheme.Scheme.{Scheme}
use Rattle.wire_frames.specs.Scheme.{number_of, payload_len}
use Rattle.wire_frames.specs.Turns.{in_turn, piece}
use Rattle.serve_core.specs.Reply.{Replies, answer}
use Rattle.serve_core.specs.Service.{Service}
use Rattle.serve_core.specs.declared.met.Met.{Met}
use Rattle.server_calls.specs.declared.sums.HeldRows.{HeldRows}
use Rattle.server_calls.specs.declared.reply.ReplyRefusal.{ReplyRefusal}
use Rattle.server_calls.specs.declared.reply.ReplyRefusal.TheVariants.{Database, Room}
use Rattle.server_calls.specs.Held.{AreRows, database_of}

-- they are rows of so many bytes, as many as they have room for
abbrev pub AreWhole : List ℕ → ℕ → Type 0
AreWhole bytes width = AreRows bytes (length bytes / width) width

-- these are the rows, exactly where they are those of a database
abbrev pub HoldsRows : List ℕ → ℕ → Option HeldRows → Type 0
HoldsRows bytes width (Some rows) =
    (rows.bytes.now ≡ bytes) × (rows.count ≡ length bytes / width) × (rows.width ≡ width) × AreWhole bytes width
HoldsRows bytes width None = AreWhole bytes width → ⊥

-- the number is one of a scheme
abbrev pub IsScheme : ℕ → Type 0
IsScheme number = (number ≡ SHAMIR) ⊎ (number ≡ XOR)

-- this is its scheme, exactly where it is
abbrev pub SaysScheme : ℕ → Option Scheme → Type 0
SaysScheme number (Some scheme) = number ≡ number_of scheme
SaysScheme number None = IsScheme number → ⊥

-- the answers to so many vectors, by so many rows
abbrev pub answers_by : List ℕ → ℕ → ℕ → Scheme → ℕ → List ℕ → List ℕ
answers_by bytes rows width scheme count vectors =
    in_turn count (λ i. answer scheme (database_of bytes rows width) (piece (payload_len scheme rows) i vectors))

-- the same, by rows that are held
abbrev pub answers_by_held : HeldRows → Scheme → ℕ → List ℕ → List ℕ
answers_by_held rows = answers_by rows.bytes.now rows.count rows.width

-- the frame stands at the front of the room, which else is as it was, and the guest is met so; or there is less room
abbrev pub WritesFrame : List ℕ → Met → List ℕ → List ℕ → Result (Met × ℕ) ReplyRefusal → Type 0
WritesFrame frame met old new (Ok done) = (done.0 ≡ met) × (done.1 ≡ length frame) × (done.1 ≤ length old)
    × (new ≡ frame ++ drop done.1 old)
WritesFrame frame met old new (Err (Room other wanted)) =
    (other ≡ met) × (wanted ≡ length frame) × (length old < wanted) × (new ≡ old)
WritesFrame frame met old new (Err Database) = ⊥

-- what a caller serves: rows, how wide they are, and the number of a scheme
pub record Held : Type 0 where
  pub bytes : List ℕ
  pub width : ℕ
  pub scheme : ℕ

-- what is served with these
abbrev pub held : List ℕ → ℕ → ℕ → Held
held bytes width scheme = record { bytes = bytes; width = width; scheme = scheme }

-- the bytes are the rows of a database, and the scheme is one
abbrev pub MayServe : Held → Type 0
MayServe h = AreWhole h.bytes h.width × IsScheme h.scheme

-- the server, with one worker
abbrev pub service_of : Held → Service
service_of h = record {
  database = database_of h.bytes (length h.bytes / h.width) h.width;
  scheme = h.scheme;
  workers = 1;
}

-- some reply to the guest is written or not
pub record WritesReply (h : Held) (guest old new : List ℕ) (result : Result (Met × ℕ) ReplyRefusal) : Type 0 where
  pub met : Met
  pub frame : List ℕ
  pub is : Replies (service_of h) guest met frame
  pub written : WritesFrame frame met old new result

-- the reply is written; or what is held is no database, or there is less room than for the reply, and then the room is
-- as it was
abbrev pub RepliesInto : Held → List ℕ → List ℕ → List ℕ → Result (Met × ℕ) ReplyRefusal → Type 0
RepliesInto h guest old new (Ok done) = MayServe h × WritesReply h guest old new (Ok done)
RepliesInto h guest old new (Err Database) = (MayServe h → ⊥) × (new ≡ old)
RepliesInto h guest old new (Err (Room met wanted)) = MayServe h × WritesReply h guest old new (Err (Room met wanted))
