-- What a call answers that writes a server's reply.
use Rattle.std.specs.Prelude.{ℕ, ℤ, ◌≡◌, List, Result, Ok, Err}
use Rattle.serve_core.specs.declared.met.Met.{Met}
use Rattle.serve_core.specs.declared.met.Met.TheVariants.{Served, Refused, Gone, GuestFault}
use Rattle.server_calls.specs.declared.reply.ReplyRefusal.{ReplyRefusal}
use Rattle.server_calls.specs.declared.reply.ReplyRefusal.TheVariants.{Database, Room}
use Rattle.server_calls.specs.Reply.{Held, RepliesInto}
use Rattle.libpir.specs.declared.code.Code.{Code}
use Rattle.libpir.specs.declared.code.Code.TheVariants.{Done, SmallRoom, BadDatabase}
use Rattle.libpir.specs.Codes.{number_of}

-- how a guest is met, as a number: served, refused with a status, or gone
abbrev pub met_number : Met → ℕ
met_number Served = 0
met_number (Refused status) = status
met_number Gone = 4
met_number GuestFault = 5

-- what the caller lets be written: the reply, its length, and how the guest is met
pub record ReplyPlaces : Type 0 where
  pub out : List ℕ
  pub used : ℕ
  pub met : ℕ

-- the places with these
abbrev pub reply_places : List ℕ → ℕ → ℕ → ReplyPlaces
reply_places out used met = record { out = out; used = used; met = met }

-- the code of what became of the reply
abbrev pub reply_code : Result (Met × ℕ) ReplyRefusal → Code
reply_code (Ok done) = Done
reply_code (Err (Room met wanted)) = SmallRoom
reply_code (Err Database) = BadDatabase

-- the length that the caller is told: that of the reply
abbrev pub reply_length : ℕ → Result (Met × ℕ) ReplyRefusal → ℕ
reply_length before (Ok done) = done.1
reply_length before (Err (Room met wanted)) = wanted
reply_length before (Err Database) = before

-- and how the guest is met
abbrev pub reply_met : ℕ → Result (Met × ℕ) ReplyRefusal → ℕ
reply_met before (Ok done) = met_number done.0
reply_met before (Err (Room met wanted)) = met_number met
reply_met before (Err Database) = before

-- the reply is written or refused, and the code, the length and how the guest is met say so
pub record AnswersReply (h : Held) (guest : List ℕ) (before after : ReplyPlaces) (code : ℤ) : Type 0 where
  pub replied : Result (Met × ℕ) ReplyRefusal
  pub is : RepliesInto h guest before.out after.out replied
  pub told : code ≡ number_of (reply_code replied)
  pub length_is : after.used ≡ reply_length before.used replied
  pub met_is : after.met ≡ reply_met before.met replied
