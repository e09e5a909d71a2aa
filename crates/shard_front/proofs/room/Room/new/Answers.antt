use Rattle.std.proofs.Common.{◌*◌, ◌^◌, ◌≤◌, ◌∙◌, ap₂, arith, mul-le-mul}
use Rattle.wire_frames.specs.Scheme.{scheme_of}
use Rattle.wire_frames.specs.Sizes.{answer_len, query_len}
use Rattle.wire_frames.specs.declared.scheme.Scheme.TheVariants.{Shamir}
use Rattle.shard_front.proofs.room.Room.new.Goals as goal

pub overflow_mul-from : goal.overflow_mul-from
overflow_mul-from c =
    let most : c.from.result ≤ 255 = omega arith in
    let rows : c.rows.result ≤ 2 ^ 32 = omega arith in
    omega (arith, mul-le-mul most rows)

pub returns : goal.returns
unfolding scheme_of
returns c =
    let most = c.most_blocks-most.ensures in
    record {
      query = c.in_ok-vec.ensures.len ∙ ap₂ ◌*◌ (c.from.ensures ∙ most) c.rows.ensures.is;
      shard = record {
        part = c.in_ok-vec-2.ensures.len ∙ c.query_len.ensures ∙ ap₂ (query_len Shamir) most c.shard.ensures;
        answer = c.in_ok-vec-3.ensures.len ∙ c.answer_len.ensures ∙ ap₂ answer_len most c.width.ensures;
      };
      frame = c.in_ok-vec-4.ensures.len ∙ c.answer_len-2.ensures ∙ ap₂ answer_len most c.width-2.ensures;
    }
