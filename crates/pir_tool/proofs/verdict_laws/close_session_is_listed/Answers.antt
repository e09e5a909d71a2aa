use Rattle.std.proofs.Common.{arith}
use Rattle.wire_frames.specs.Sizes.{answer_len}
use Rattle.block_decoder.proofs.OneBlock.{close_verdict_is_listed}
use Rattle.block_decoder.proofs.UsableAnswers.{columns-answers, bytes_from_fits}
use Rattle.pir_tool.proofs.verdict_laws.close_session_is_listed.Goals as goal

pub returns : goal.returns
returns c =
    let session = c.args.session.now in
    let range = c.params.ensures.range in
    let servers = range.few_servers in
    let columns = columns-answers session (omega (arith, c.record_count.ensures.few, servers))
    (bytes_from_fits (answer_len session.params.count session.params.s) session.records c.record_count.ensures.fits) in
    close_verdict_is_listed session c.args.verdict.now range columns c.record_count.ensures.few c.requires.enough c.requires.close c.requires.verdict
