-- The room that a front takes.
use Rattle.std.specs.Prelude.{◌≡◌, ℕ, vec_len}
use Rattle.wire_frames.specs.Sizes.{answer_len, query_len}
use Rattle.wire_frames.specs.declared.scheme.Scheme.TheVariants.{Shamir}
use Rattle.serve_core.specs.Terms.{most_blocks_for, most_payload_for}
use Rattle.shard_front.specs.declared.room.Room.{Room}
use Rattle.shard_front.specs.declared.room.ShardRoom.{ShardRoom}
use Rattle.shard_front.specs.Spread.{Spread, terms_of}

-- how many bytes the part of a query for one shard has at most
abbrev pub most_part_for : Spread → ℕ
most_part_for spread = query_len Shamir (most_blocks_for (terms_of spread)) spread.shard

-- how many bytes an answer has at most
abbrev pub most_answer_for : Spread → ℕ
most_answer_for spread = answer_len (most_blocks_for (terms_of spread)) spread.width

-- room for what one shard is asked and answers: the most that a part and an answer take
pub record FitsShard (spread : Spread) (room : ShardRoom) : Type 0 where
  pub part : vec_len room.part ≡ most_part_for spread
  pub answer : vec_len room.answer ≡ most_answer_for spread

-- as much as a front takes for the most blocks that a query asks for, whatever the number of shards: the payload of the
-- query, what one shard is asked and answers, and the frame of the answer
pub record Fits (spread : Spread) (room : Room) : Type 0 where
  pub query : vec_len room.query ≡ most_payload_for (terms_of spread)
  pub shard : FitsShard spread room.shard
  pub frame : vec_len room.frame ≡ most_answer_for spread
