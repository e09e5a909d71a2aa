use Rattle.std.proofs.Common.{arith}
use Rattle.uni_poly.proofs.Coefficients.{bytes_from_get_or}
use Rattle.block_decoder.specs.Agreed.{answers_of}
use Rattle.block_decoder.proofs.Agreed.{length-answers_of}
use Rattle.block_decoder.proofs.Columns.{columns-answers_of}
use Rattle.block_decoder.proofs.OneBlock.{close_is_listed}
use Rattle.pir_tool.proofs.verdict_laws.close_agreement_is_listed.Goals as goal

pub returns : goal.returns
returns c =
    let s = c.args.s in
    let indices = c.args.indices.now in
    let bytes = c.args.bytes.now in
    let n = length-answers_of s indices bytes in
    let columns = columns-answers_of s indices bytes c.requires.ascending c.requires.fit
    (bytes_from_get_or indices (λ k. (c.type_inv.indices k).fits)) (bytes_from_get_or bytes (λ k. (c.type_inv.bytes k).fits)) in
    close_is_listed (answers_of s indices bytes) s c.args.t c.args.h c.args.verdict.now columns (omega (arith, n, c.requires.few))
    (omega (arith, n, c.requires.enough)) (omega (arith, n, c.requires.close)) c.requires.verdict
