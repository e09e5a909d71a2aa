use Rattle.wire_frames.specs.Sizes.{answer_len}
use Rattle.block_decoder.proofs.UsableAnswers.{bytes_from_fits}
use Rattle.fetch_client.proofs.HonestReport.{liars_named_in}
use Rattle.pir_tool.proofs.honest_laws.liars_are_named.Goals as goal

pub returns : goal.returns
returns c =
    let session = c.args.session.now in
    let bytes = bytes_from_fits (answer_len session.params.count session.params.s) session.records c.record_count.ensures.fits in
    liars_named_in session c.args.t c.args.tau c.args.coins.now c.args.blocks.now c.args.judged.now.0 c.args.judged.now.1 c.requires.count c.params.ensures.range c.record_count.ensures.few bytes
    c.requires.coins c.requires.blocks c.requires.degree c.requires.report
