use Rattle.std.proofs.Common.{[], ◌∷◌, decimal}
use Rattle.std.proofs.lemmas.Result.{err_from_is_err_and}
use Rattle.port_trait.proofs.Pieces.{written_next, written_both}
use Rattle.block_decoder.specs.Text.{number_word}
use Rattle.port_trait.proofs.Cells.{touches_more, fails_first}
use Rattle.block_decoder.proofs.write.write_number.Goals as goal

pub returns-clause-written : goal.returns-clause-written
unfolding number_word
returns-clause-written g c =
    rw (← c.format-text.ensures.text) (rw (← c.as_bytes.ensures.value) (
    written_next 1 (32 ∷ []) c.as_bytes.result.now c.write_all-2.result _ (g.P.Ports.world c.write_all.new.ports) (g.P.Ports.world c.write_all-2.new.ports) c.in_ok-write_all.ensures.ok
    (written_both 1 c.as_bytes.result.now c.write_all-2.result (g.P.Ports.world c.write_all.new.ports)
    (g.P.Ports.world c.write_all-2.new.ports) c.write_all-2.ensures.ok c.write_all-2.ensures.failed)))

pub returns-in_err-write_all-clause-written : goal.returns-in_err-write_all-clause-written
unfolding number_word
returns-in_err-write_all-clause-written g c =
    let p = err_from_is_err_and c.from_residual.result c.from_residual.ensures.1 in
    rw p.1 (fails_first 1 (32 ∷ []) (decimal c.args.n) _ _ c.in_err-write_all.ensures.failed)

pub returns-in_err-write_all-clause-others : goal.returns-in_err-write_all-clause-others
returns-in_err-write_all-clause-others g c = c.in_err-write_all.ensures.others

pub returns-clause-others : goal.returns-clause-others
returns-clause-others g c = touches_more _ _ _ _ c.in_ok-write_all.ensures.others c.write_all-2.ensures.others
