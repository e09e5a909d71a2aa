use Rattle.std.proofs.Common.{◌≡◌, ◌+◌, ◌≤◌, length, get_or, arith}
use Rattle.column_runs.specs.Tile.{given}
use Rattle.column_runs.proofs.SameColumns.{has-lanes, each-on}
use Rattle.column_runs.proofs.agreement.agreeing_blocks.Goals as goal

pub whole-preserved : goal.whole-preserved
whole-preserved c =
    let at = c.whole.at in
    let row = c.args.row.now in
    let wanted = given c.args.first.now c.args.differences.now c.args.factors.now in
    let room : at + 128 ≤ length row = omega (arith, c.whole-test.true, c.requires.width, c.whole.invariant.within) in
    let block = c.block_at-block.result in
    let made = c.block_at-block.ensures in
    let is = c.is_block.ensures c.if-not-is_block.false in
    record {
      within = omega (arith, room, c.requires.width);
      same = λ k l.
          each-on (λ k. get_or row k 0 ≡ wanted k) (at + 96) 32 (at + 64 + 32) (omega arith)
          (each-on (λ k. get_or row k 0 ≡ wanted k) (at + 64) 32 (at + 32 + 32) (omega arith)
          (each-on (λ k. get_or row k 0 ≡ wanted k) (at + 32) 32 (at + 32) (omega arith)
          (each-on (λ k. get_or row k 0 ≡ wanted k) at 32 at (omega arith) c.whole.invariant.same
          (has-lanes 32 row block.0 wanted at is.a made.a))
          (has-lanes 32 row block.1 wanted (at + 32) is.b made.b))
          (has-lanes 32 row block.2 wanted (at + 64) is.c made.c))
          (has-lanes 32 row block.3 wanted (at + 96) is.d made.d)
          k (omega (arith, l));
    }
