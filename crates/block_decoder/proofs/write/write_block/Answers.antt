use Rattle.std.proofs.Common.{[], ◌∷◌}
use Rattle.hex.specs.Hex.{encode_lower}
use Rattle.block_decoder.specs.Text.{block_line}
use Rattle.port_trait.proofs.Pieces.{written_next, written_both}
use Rattle.std.proofs.lemmas.Result.{err_from_is_err_and}
use Rattle.port_trait.proofs.Cells.{touches_more, fails_first}
use Rattle.block_decoder.proofs.write.write_block.Goals as goal

pub returns-clause-written : goal.returns-clause-written
unfolding block_line
returns-clause-written g c =
    written_next 1 (encode_lower c.args.block.now) (10 ∷ []) c.write_all.result _ (g.P.Ports.world c.write_hex.new.ports) (g.P.Ports.world c.write_all.new.ports) c.in_ok-write_hex.ensures.written
    (written_both 1 (10 ∷ []) c.write_all.result (g.P.Ports.world c.write_hex.new.ports) (g.P.Ports.world c.write_all.new.ports) c.write_all.ensures.ok c.write_all.ensures.failed)

pub returns-in_err-write_hex-clause-written : goal.returns-in_err-write_hex-clause-written
unfolding block_line
returns-in_err-write_hex-clause-written g c =
    let p = err_from_is_err_and c.from_residual.result c.from_residual.ensures.1 in
    rw p.1 (fails_first 1 (encode_lower c.args.block.now) (10 ∷ []) _ _ c.in_err-write_hex.ensures.written)

pub returns-in_err-write_hex-clause-others : goal.returns-in_err-write_hex-clause-others
returns-in_err-write_hex-clause-others g c = c.in_err-write_hex.ensures.others

pub returns-clause-others : goal.returns-clause-others
returns-clause-others g c = touches_more _ _ _ _ c.in_ok-write_hex.ensures.others c.write_all.ensures.others
