use Rattle.std.proofs.Common.{codes}
use Rattle.std.proofs.lemmas.Result.{err_from_is_err_and}
use Rattle.port_trait.proofs.Cells.{fails_first}
use Rattle.port_trait.proofs.Pieces.{written_next}
use Rattle.block_decoder.specs.Text.{block_line}
use Rattle.key_fetches.specs.Text.{found_line}
use Rattle.key_fetches.proofs.write.write_found.Goals as goal

pub returns-clause-written : goal.returns-clause-written
unfolding found_line
returns-clause-written g c =
    written_next 1 (codes "found ") (block_line c.args.row.now) c.write_block.result _ (g.P.Ports.world c.write_all.new.ports)
    (g.P.Ports.world c.write_block.new.ports) c.in_ok-write_all.ensures.ok c.write_block.ensures.written

pub returns-in_err-write_all-clause-written : goal.returns-in_err-write_all-clause-written
unfolding found_line
returns-in_err-write_all-clause-written g c =
    let p = err_from_is_err_and c.from_residual.result c.from_residual.ensures.1 in
    rw p.1 (fails_first 1 (codes "found ") (block_line c.args.row.now) _ _ c.in_err-write_all.ensures.failed)
