-- What the two rounds of a fetch do: each server is sent its query, and then the answer of each is taken.
use Rattle.std.specs.Prelude.{ℕ, ◌≡◌, ◌+◌, ◌++◌, ◌∷◌, List, [], length, Bool, false, Option, None, slice_index_or}
use Rattle.port_trait.specs.World.{Cell, World}
use Rattle.port_trait.specs.Number.{link}
use Rattle.port_trait.specs.Each.{Each}
use Rattle.wire_frames.specs.Session.{Transcript}
use Rattle.query_rounds.specs.Queries.{Queries}
use Rattle.query_rounds.specs.Sent.{address_at, frame_at}
use Rattle.query_rounds.specs.Link.{LinkSent, LinkTaken}

-- what the link to the server at a place, counted from 0, did when it was sent its query, by whether it was reached
abbrev pub SentAt : Queries → ℕ → Bool → Cell → Cell → Type 0
SentAt q place reached old new = LinkSent (address_at q place) (frame_at q place) reached old new

-- the server at a place was sent its query
abbrev pub SentTo : Queries → ℕ → Bool → World → World → Type 0
SentTo q place reached old new = SentAt q place reached (old.at (link 1 + place)) (new.at (link 1 + place))

-- each of the first n servers was sent its query, and it is marked whether it was reached
abbrev pub SentEach : Queries → ℕ → List Bool → World → World → Type 0
SentEach q n reached old new = Each (λ i. SentAt q i (slice_index_or reached i false)) (link 1) n old new

-- one more server's answer was taken, if it was reached, and its record is the last
pub record TakesNext (most : ℕ) (reached : Bool) (before after : Transcript) (old new : World) : Type 0 where
  pub answer : Option (List ℕ)
  pub session : after ≡ record before { records = before.records ++ answer ∷ [] }
  pub taken : LinkTaken most reached answer (old.at (link 1 + length before.records)) (new.at (link 1 + length before.records))

-- of each of the first n servers the answer was taken, if it was reached, and the session has its record
abbrev pub TakenEach : ℕ → ℕ → List Bool → Transcript → World → World → Type 0
TakenEach most n reached session old new =
    Each (λ i. LinkTaken most (slice_index_or reached i false) (slice_index_or session.records i None)) (link 1) n old new
