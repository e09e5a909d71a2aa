-- What is taken of the guest that is in, before its query is answered.
use Rattle.std.specs.Prelude.{◌≡◌, ◌⊎◌, ℕ, ◌<◌, ◌≤◌, false, List, [], length, take, IfSome}
use Rattle.port_trait.specs.World.{World}
use Rattle.port_trait.specs.Number.{GUEST}
use Rattle.port_trait.specs.Moves.{RoseOnce, took, gave, counted}
use Rattle.wire_frames.specs.declared.sizes.TheConstants.{FRAME_HEADER_LEN}
use Rattle.wire_frames.specs.declared.header.QueryHeader.{QueryHeader}
use Rattle.wire_frames.specs.Header.{query_header}
use Rattle.wire_frames.specs.Limits.{IsQuery}
use Rattle.serve_core.specs.Terms.{payload_len_for, query_len_for}
use Rattle.serve_core.specs.Case.{IsCase, IsShaped, IsWholeWith, ReplyTakes, Suits, dismissal, header_of, payload, query_len_of, some_sets_unused}
use Rattle.serve_core.specs.declared.terms.Terms.{Terms}
use Rattle.serve_core.specs.declared.met.Met.{Met}
use Rattle.serve_core.specs.declared.met.Met.TheVariants.{Refused as IsRefused, Gone as IsGone}
use Rattle.serve_core.specs.declared.taken.Taken.{Taken}
use Rattle.serve_core.specs.declared.taken.Taken.TheVariants.{Query, Refused, Gone, GuestFault}

-- a query whose header is good: it is of the scheme, for a database of the shape
pub record IsGood (terms : Terms) (query : QueryHeader) : Type 0 where
  pub range : IsQuery query
  pub scheme : query.scheme ≡ terms.scheme
  pub shape : IsShaped terms query

-- the payload of a query, at the start of a slice
abbrev pub payload_in : Terms → QueryHeader → List ℕ → List ℕ
payload_in terms query slice = take (payload_len_for terms query.count) slice

-- the bytes begin with the whole query that has this header and this payload, and is good
pub record IsQueryOf (terms : Terms) (query : QueryHeader) (vectors bytes : List ℕ) : Type 0 where
  pub good : IsWholeWith false terms bytes
  pub header : header_of bytes ≡ query_header query
  pub vectors_are : vectors ≡ payload terms bytes

-- a query was taken whole: it has this header, and its payload stands at the start of the slice
pub record TakesQuery (terms : Terms) (query : QueryHeader) (slice : List ℕ) (old new : World)
    : Type 0 where
  pub good : IsGood terms query
  pub fits : payload_len_for terms query.count ≤ length slice
  pub trim : some_sets_unused terms query.count (payload_in terms query slice) ≡ false
  pub cell : new.at GUEST ≡ took (query_len_for terms query.count) (old.at GUEST)
  pub told : IfSome (old.at GUEST).holds
      (IsQueryOf terms query (payload_in terms query slice))

-- the bytes are those of a guest that is met so, so many of them are taken, and it is given this frame
pub record IsDismissal (terms : Terms) (met : Met) (n : ℕ) (frame bytes : List ℕ) : Type 0 where
  pub is : IsCase terms bytes met
  pub takes : ReplyTakes terms bytes met n
  pub there : n ≤ length bytes
  pub frame_is : frame ≡ dismissal met bytes

-- no query was taken: the guest is met so, and was given the whole frame for that, once its stream lost
-- the n bytes that it takes
pub record Dismisses (terms : Terms) (met : Met) (old new : World) : Type 0 where
  pub n : ℕ
  pub frame : List ℕ
  pub cell : new.at GUEST ≡ gave frame (took n (old.at GUEST))
  pub told : IfSome (old.at GUEST).holds (IsDismissal terms met n frame)

-- fewer than the bytes of a header, or of a query whose header suits
abbrev pub IsShort : Terms → ℕ → List ℕ → Type 0
IsShort terms n bytes = (n < FRAME_HEADER_LEN)
    ⊎ (Suits terms bytes × (n < query_len_of terms bytes))

-- taking failed: not all that the reply takes was taken, and nothing was given
pub record TakesShort (terms : Terms) (n : ℕ) (given bytes : List ℕ) : Type 0 where
  pub short : IsShort terms n bytes
  pub there : n ≤ length bytes
  pub nothing : given ≡ []

-- giving failed: all that the refusal takes was taken, and a proper prefix of its frame was given
pub record RefusesShort (terms : Terms) (n : ℕ) (given bytes : List ℕ) : Type 0 where
  pub status : ℕ
  pub frame : List ℕ
  pub size : ℕ
  pub refusal : IsDismissal terms (IsRefused status) n frame bytes
  pub proper : size < length frame
  pub prefix_is : given ≡ take size frame

-- what was taken and given before a call on the guest failed
abbrev pub IsBrokenTaking : Terms → ℕ → List ℕ → List ℕ → Type 0
IsBrokenTaking terms n given bytes = TakesShort terms n given bytes
    ⊎ RefusesShort terms n given bytes

-- a call on the guest failed, once its stream had lost n bytes and it was given these
pub record BreaksTaking (terms : Terms) (old new : World) : Type 0 where
  pub n : ℕ
  pub given : List ℕ
  pub cell : new.at GUEST ≡ counted (new.at GUEST).faults (gave given (took n (old.at GUEST)))
  pub rose : RoseOnce (old.at GUEST).faults (new.at GUEST).faults
  pub told : IfSome (old.at GUEST).holds (IsBrokenTaking terms n given)

-- what was taken of the guest that is in, by what is answered: the cases of a reply, with the query in place
-- of its being served
abbrev pub Takes : Terms → Taken → List ℕ → World → World → Type 0
Takes terms (Query query) slice old new = TakesQuery terms query slice old new
Takes terms (Refused status) slice old new = Dismisses terms (IsRefused status) old new
Takes terms Gone slice old new = Dismisses terms IsGone old new
Takes terms GuestFault slice old new = BreaksTaking terms old new
