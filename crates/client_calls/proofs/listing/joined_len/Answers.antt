use Rattle.client_calls.proofs.Joined.{size_more}
use Rattle.client_calls.proofs.listing.joined_len.Goals as goal

pub loop-block-preserved : goal.loop-block-preserved
loop-block-preserved c =
    size_more c.args.blocks.now c.loop-block.block-index c.block-item.result c.deref-bytes.result.now c.loop-block-test.true c.block-item.is
    c.deref-bytes.ensures.value c.loop-block.size c.loop-block.invariant
