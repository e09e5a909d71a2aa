use Rattle.std.proofs.Common.{◌≡◌, ◌∙◌, ◌+◌, ◌-◌, ◌≤◌, ℕ, List, ◌++◌, length, take, sym, ap, arith}
use Rattle.wire_frames.proofs.Turns.{turn_keeps}
use Rattle.client_calls.proofs.Joined.{ends_within, one_more, size_more, together, written_behind}
use Rattle.client_calls.proofs.listing.write_joined.Goals as goal

pub slice_bounds-copy_from_slice-end : goal.slice_bounds-copy_from_slice-end
slice_bounds-copy_from_slice-end c =
    ends_within c.args.blocks.now c.loop-block.block-index c.block-item.result c.deref-bytes.result.now c.loop-block-test.true c.block-item.is
    c.deref-bytes.ensures.value c.loop-block.start (length c.loop-block.out) c.loop-block.invariant.start c.loop-block.invariant.size

pub loop-block-preserved : goal.loop-block-preserved
loop-block-preserved c =
    let blocks = c.args.blocks.now in
    let i = c.loop-block.block-index in
    let bytes = c.deref-bytes.result.now in
    let out = c.loop-block.out in
    let start = c.loop-block.start in
    let row = c.copy_from_slice.new.self in
    let row_is : row ≡ bytes = c.copy_from_slice.ensures.after in
    let same : length row ≡ length bytes = ap length row_is in
    let room : start + length bytes ≤ length out =
    ends_within blocks i c.block-item.result bytes c.loop-block-test.true c.block-item.is c.deref-bytes.ensures.value start (length out)
    c.loop-block.invariant.start c.loop-block.invariant.size in
    let k = start + length bytes - start in
    record {
      start = size_more blocks i c.block-item.result bytes c.loop-block-test.true c.block-item.is c.deref-bytes.ensures.value start c.loop-block.invariant.start;
      written = written_behind out row (together (take i blocks)) start k (start + length bytes) (omega (arith, same)) room c.loop-block.invariant.written
          ∙ ap (λ (l : List ℕ). together (take i blocks) ++ l) row_is
          ∙ sym (one_more blocks i c.block-item.result bytes c.loop-block-test.true c.block-item.is c.deref-bytes.ensures.value);
      size = turn_keeps out row start k (omega (arith, room)) (omega (arith, same)) ∙ c.loop-block.invariant.size;
    }
