use Rattle.std.proofs.Common.{◌+◌, arith}
use Rattle.std.specs.Simd.Lanes.{chunk}
use Rattle.std.proofs.lemmas.Bool.{eqb-true}
use Rattle.std.proofs.lemmas.Simd.{length-chunk}
use Rattle.column_runs.proofs.SameLanes.{four_same}
use Rattle.column_runs.proofs.agreement.is_block.Goals as goal

pub returns : goal.returns
returns c = λ zero.
    let row = c.args.row.now in
    let at = c.args.at in
    let room = c.requires.within in
    let same =
    four_same 32 (chunk at 32 row) (chunk (at + 32) 32 row) (chunk (at + 64) 32 row) (chunk (at + 96) 32 row)
    c.args.block.0 c.args.block.1 c.args.block.2 c.args.block.3
    (length-chunk at 32 row (omega (arith, room))) (length-chunk (at + 32) 32 row (omega (arith, room)))
    (length-chunk (at + 64) 32 row (omega (arith, room))) (length-chunk (at + 96) 32 row (omega (arith, room)))
    c.requires.a c.requires.b c.requires.c c.requires.d (eqb-true _ _ zero) in
    record {
      a = same.0;
      b = same.1;
      c = same.2;
      d = same.3;
    }
