use Rattle.wire_frames.specs.Sizes.{answer_len}
use Rattle.block_decoder.proofs.UsableAnswers.{bytes_from_fits}
use Rattle.fetch_client.proofs.HonestVerdicts.{finds_honest_block}
use Rattle.pir_tool.proofs.honest_laws.honest_block_is_found.Goals as goal

pub returns : goal.returns
returns c =
    let session = c.args.session.now in
    let bytes = bytes_from_fits (answer_len session.params.count session.params.s) session.records c.record_count.ensures.fits in
    finds_honest_block session c.args.t c.args.tau c.args.coins.now c.args.blocks.now c.args.verdict.now c.requires.count c.params.ensures.range c.record_count.ensures.few bytes c.requires.coins c.requires.blocks c.requires.verdict
    c.requires.degree c.requires.held_whole
