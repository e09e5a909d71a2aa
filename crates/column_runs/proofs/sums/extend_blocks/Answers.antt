use Rattle.std.proofs.Common.{◌+◌, ◌≤◌, length, arith}
use Rattle.std.specs.Simd.Lanes.{put_chunk}
use Rattle.std.proofs.lemmas.Simd.{length-put_chunk}
use Rattle.column_runs.specs.Tile.{given}
use Rattle.column_runs.proofs.MadeSums.{made-put}
use Rattle.column_runs.proofs.sums.extend_blocks.Goals as goal

pub whole-preserved : goal.whole-preserved
whole-preserved c =
    let at = c.whole.at in
    let sums = c.whole.sums in
    let block = c.block_at.result in
    let is = c.block_at.ensures in
    let wanted = given c.args.first.now c.args.differences.now c.args.factors.now in
    let size = c.whole.auto.sums in
    let room : at + 128 ≤ length sums = omega (arith, c.whole-test.true, size, c.requires.same, c.whole.invariant.within) in
    let with_a = put_chunk at sums block.0 in
    let with_b = put_chunk (at + 32) with_a block.1 in
    let with_c = put_chunk (at + 64) with_b block.2 in
    let size_a = length-put_chunk at sums block.0 in
    let size_b = length-put_chunk (at + 32) with_a block.1 in
    let size_c = length-put_chunk (at + 64) with_b block.2 in
    record {
      within = omega (arith, room, size, c.requires.same);
      made = λ k l.
          made-put with_c block.3 wanted (at + 96) (at + 64 + 32) (omega arith) (omega (arith, room, size_a, size_b, size_c)) is.d
          (made-put with_b block.2 wanted (at + 64) (at + 32 + 32) (omega arith) (omega (arith, room, size_a, size_b)) is.c
          (made-put with_a block.1 wanted (at + 32) (at + 32) (omega arith) (omega (arith, room, size_a)) is.b
          (made-put sums block.0 wanted at at (omega arith) (omega (arith, room)) is.a c.whole.invariant.made))) k (omega (arith, l));
    }
