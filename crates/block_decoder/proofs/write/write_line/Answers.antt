use Rattle.std.proofs.Common.{[], ◌∷◌, ◌++◌}
use Rattle.std.specs.Prelude.{flat_map}
use Rattle.std.proofs.lemmas.Result.{err_from_is_err_and}
use Rattle.port_trait.proofs.Pieces.{written_next, written_cut, written_both}
use Rattle.block_decoder.specs.Text.{number_word, line_of}
use Rattle.port_trait.proofs.Cells.{touches_more, fails_first}
use Rattle.block_decoder.proofs.write.write_line.Goals as goal

pub returns-in_err-write_all-clause-written : goal.returns-in_err-write_all-clause-written
unfolding line_of
returns-in_err-write_all-clause-written g c =
    let p = err_from_is_err_and c.from_residual.result c.from_residual.ensures.1 in
    rw (p.1, ← c.as_bytes.ensures.value) (fails_first 1 c.as_bytes.result.now _ _ _ c.in_err-write_all.ensures.failed)

pub returns-in_err-write_numbers-clause-written : goal.returns-in_err-write_numbers-clause-written
unfolding line_of
returns-in_err-write_numbers-clause-written g c =
    let p = err_from_is_err_and c.from_residual-in_err-write_numbers.result c.from_residual-in_err-write_numbers.ensures.1 in
    rw (p.1, ← c.as_bytes.ensures.value) (written_cut 1 c.as_bytes.result.now _ _ _ _ _ c.in_ok-write_all.ensures.ok c.in_err-write_numbers.ensures.written)

pub returns-clause-written : goal.returns-clause-written
unfolding line_of
returns-clause-written g c =
    let numbers = flat_map number_word c.args.numbers.now in
    let end = written_both 1 (10 ∷ []) c.write_all-2.result (g.P.Ports.world c.write_numbers.new.ports)
    (g.P.Ports.world c.write_all-2.new.ports) c.write_all-2.ensures.ok c.write_all-2.ensures.failed in
    let rest = written_next 1 numbers (10 ∷ []) c.write_all-2.result (g.P.Ports.world c.write_all.new.ports)
    (g.P.Ports.world c.write_numbers.new.ports) (g.P.Ports.world c.write_all-2.new.ports) c.in_ok-write_numbers.ensures.written end in
    rw (← c.as_bytes.ensures.value)
    (written_next 1 c.as_bytes.result.now (numbers ++ 10 ∷ []) c.write_all-2.result _ (g.P.Ports.world c.write_all.new.ports)
    (g.P.Ports.world c.write_all-2.new.ports) c.in_ok-write_all.ensures.ok rest)

pub returns-in_err-write_all-clause-others : goal.returns-in_err-write_all-clause-others
returns-in_err-write_all-clause-others g c = c.in_err-write_all.ensures.others

pub returns-in_err-write_numbers-clause-others : goal.returns-in_err-write_numbers-clause-others
returns-in_err-write_numbers-clause-others g c = touches_more _ _ _ _ c.in_ok-write_all.ensures.others c.in_err-write_numbers.ensures.others

pub returns-clause-others : goal.returns-clause-others
returns-clause-others g c = touches_more _ _ _ _ (touches_more _ _ _ _ c.in_ok-write_all.ensures.others c.in_ok-write_numbers.ensures.others) c.write_all-2.ensures.others
