-- The steps of a reply: the header is judged, the payload is taken, the frame is given.
use Rattle.std.specs.Prelude.{◌≡◌, ◌≢◌, ◌⊎◌, ℕ, Bool, true, false, List, length, Result, Ok, Err}
use Rattle.port_trait.specs.World.{World}
use Rattle.port_trait.specs.Number.{GUEST}
use Rattle.port_trait.specs.Moves.{Hands, gave}
use Rattle.port_trait.specs.Whole.{Ends, FailsShort, FailsWithin}
use Rattle.wire_frames.specs.declared.header.QueryHeader.{QueryHeader}
use Rattle.wire_frames.specs.Header.{answer_to, query_header}
use Rattle.wire_frames.specs.Query.{IsQueryHeader}
use Rattle.serve_core.specs.Terms.{payload_len_for}
use Rattle.serve_core.specs.Service.{Service, terms_of}
use Rattle.serve_core.specs.Case.{IsShaped, some_sets_unused}
use Rattle.serve_core.specs.Refusal.{refusal_status}
use Rattle.serve_core.specs.Reply.{answer_frame}
use Rattle.serve_core.specs.Taking.{payload_in}
use Rattle.serve_core.specs.declared.terms.Terms.{Terms}
use Rattle.serve_core.specs.declared.met.Met.{Met}
use Rattle.serve_core.specs.declared.met.Met.TheVariants.{Served, GuestFault as MetFault}
use Rattle.serve_core.specs.declared.taken.Taken.{Taken}
use Rattle.serve_core.specs.declared.taken.Taken.TheVariants.{Query, Refused, Gone, GuestFault}
use Rattle.serve_core.specs.declared.refusal.Refusal.{Refusal}
use Rattle.serve_core.specs.declared.refusal.Refusal.TheVariants.{Malformed, OtherScheme, OtherShape}

-- the bytes are the header of this query, and it is the scheme's
pub record IsOfScheme (terms : Terms) (header : List ℕ) (query : QueryHeader) : Type 0 where
  pub is : IsQueryHeader header query
  pub scheme : query.scheme ≡ terms.scheme

-- they are the header of this query, which suits
pub record IsSuited (terms : Terms) (header : List ℕ) (query : QueryHeader) : Type 0 where
  pub is : IsOfScheme terms header query
  pub shape : IsShaped terms query

-- what is judged of the bytes of a header
abbrev pub Judges : Terms → List ℕ → Result QueryHeader Refusal → Type 0
Judges terms header (Ok query) = IsSuited terms header query
Judges terms header (Err Malformed) = (query : QueryHeader) → IsQueryHeader header query → ⊥
Judges terms header (Err OtherScheme) = (query : QueryHeader)
    × IsQueryHeader header query × (query.scheme ≢ terms.scheme)
Judges terms header (Err OtherShape) = (query : QueryHeader)
    × IsOfScheme terms header query × (IsShaped terms query → ⊥)

-- the guest was given the frame, and is met with `met`; or a call failed when it had taken a proper
-- prefix of the frame
abbrev pub Gives : Met → List ℕ → Met → World → World → Type 0
Gives met frame result old new = ((result ≡ met) × (new.at GUEST ≡ gave frame (old.at GUEST)))
    ⊎ ((result ≡ MetFault) × FailsWithin GUEST frame old new)

-- the guest was given the answer to a query whose payload stands at the start of a slice, as above
abbrev pub GivesAnswer : Service → QueryHeader → List ℕ → Met → World → World → Type 0
GivesAnswer service query slice met old new =
    Gives Served (answer_frame service (query_header query) (payload_in (terms_of service) query slice)) met old new

-- the frame of a refusal
abbrev pub refusal_frame : List ℕ → Refusal → List ℕ
refusal_frame header refusal = answer_to header (refusal_status refusal)

-- the guest was given that frame, as above, by which no query is taken
abbrev pub GivesRefusal : List ℕ → Refusal → Taken → World → World → Type 0
GivesRefusal header refusal taken old new =
    ((taken ≡ Refused (refusal_status refusal)) × (new.at GUEST ≡ gave (refusal_frame header refusal) (old.at GUEST)))
    ⊎ ((taken ≡ GuestFault) × FailsWithin GUEST (refusal_frame header refusal) old new)

-- the payload of a query for so many blocks was taken whole, and one of its vectors sets an unused bit
-- or none does, as this says
pub record TakesPayload (unused : Bool) (terms : Terms) (count : ℕ) (query : List ℕ)
    (old new : World) : Type 0 where
  pub before : List ℕ
  pub size : length query ≡ payload_len_for terms count
  pub hands : Hands GUEST (length before) before query old new
  pub full : length before ≡ length query
  pub unused_is : some_sets_unused terms count query ≡ unused

-- the payload of a query was taken, and refused
pub record Declines (terms : Terms) (query : QueryHeader) (taken : Taken) (old new : World) : Type 0 where
  pub vectors : List ℕ
  pub mid : World
  pub takes : TakesPayload true terms query.count vectors old mid
  pub gives : GivesRefusal (query_header query) Malformed taken mid new

-- the guest ended before its payload was whole
pub record Stops (terms : Terms) (count : ℕ) (old new : World) : Type 0 where
  pub n : ℕ
  pub before : List ℕ
  pub after : List ℕ
  pub size : length before ≡ payload_len_for terms count
  pub ends : Ends GUEST n before after old new

-- what is done with the payload of a query whose header suits; it is these vectors, where it is taken
abbrev pub HandlesPayload : Terms → QueryHeader → Taken → List ℕ → World → World → Type 0
HandlesPayload terms query taken vectors old new =
    ((taken ≡ Query query) × TakesPayload false terms query.count vectors old new)
    ⊎ Declines terms query taken old new
    ⊎ ((taken ≡ Gone) × Stops terms query.count old new)
    ⊎ ((taken ≡ GuestFault) × FailsShort GUEST (payload_len_for terms query.count) old new)
