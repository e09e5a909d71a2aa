-- What one shard makes of its part of a query.
use Rattle.std.specs.Prelude.{ℕ, ◌≡◌, ◌⊎◌, List, Bool, true, false, Some, None, slice_index}
use Rattle.gf256.specs.Field.{◌⊕◌}
use Rattle.port_trait.specs.World.{Cell}
use Rattle.wire_frames.specs.declared.header.QueryHeader.{QueryHeader}
use Rattle.wire_frames.specs.Answer.{usable}
use Rattle.shard_front.specs.Parts.{Part, part_answer_len, part_frame, part_header}
use Rattle.shard_front.specs.Link.{LinkAnswers, LinkBreaks}

-- the link was given the whole part, and handed out these bytes
abbrev pub PartAnswered : Part → List ℕ → Cell → Cell → Type 0
PartAnswered part bytes old new =
    LinkAnswers part.address (part_frame part) (part_answer_len part) bytes old new

-- the shard answered: its link handed out a usable answer to the part, with this payload
pub record ShardAnswers (part : Part) (payload : List ℕ) (old new : Cell) : Type 0 where
  pub bytes : List ℕ
  pub answered : PartAnswered part bytes old new
  pub usable : usable bytes (part_header part) ≡ Some payload

-- the bytes that its link handed out are unusable
pub record AnswersUnusably (part : Part) (old new : Cell) : Type 0 where
  pub bytes : List ℕ
  pub answered : PartAnswered part bytes old new
  pub unusable : usable bytes (part_header part) ≡ None

-- it is lost: its link failed, or handed out unusable bytes
abbrev pub ShardIsLost : Part → Cell → Cell → Type 0
ShardIsLost part old new = LinkBreaks part.address (part_frame part) (part_answer_len part) old new
    ⊎ AnswersUnusably part old new

-- the bytes are a usable answer, and its payload was added to a sum; or they are none
abbrev pub AddsUsable : List ℕ → QueryHeader → Bool → List ℕ → List ℕ → Type 0
AddsUsable bytes header true before after = (payload : List ℕ)
    × (usable bytes header ≡ Some payload)
    × ((k : ℕ) → slice_index after k ≡ slice_index before k ⊕ slice_index payload k)
AddsUsable bytes header false before after = usable bytes header ≡ None

-- it answered, and its payload was added to a sum
pub record AddsPayload (part : Part) (before after : List ℕ) (old new : Cell) : Type 0 where
  pub payload : List ℕ
  pub answers : ShardAnswers part payload old new
  pub sum : (k : ℕ) → slice_index after k ≡ slice_index before k ⊕ slice_index payload k

-- what asking it does, by whether it answered
abbrev pub AsksShard : Part → Bool → List ℕ → List ℕ → Cell → Cell → Type 0
AsksShard part true before after old new = AddsPayload part before after old new
AsksShard part false before after old new = ShardIsLost part old new
