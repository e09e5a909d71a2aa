use Rattle.std.proofs.Common.{[], ◌∷◌, ◌++◌}
use Rattle.std.specs.Prelude.{codes}
use Rattle.std.proofs.lemmas.Result.{err_from_is_err_and}
use Rattle.wire_frames.specs.Answer.{answers}
use Rattle.port_trait.proofs.Pieces.{written_next, written_cut, written_both}
use Rattle.block_decoder.specs.Text.{words_of}
use Rattle.port_trait.proofs.Cells.{touches_more, fails_first}
use Rattle.block_decoder.proofs.liars.write_line.Goals as goal

pub returns-in_err-write_all-clause-written : goal.returns-in_err-write_all-clause-written
returns-in_err-write_all-clause-written g c =
    let p = err_from_is_err_and c.from_residual.result c.from_residual.ensures.1 in
    rw p.1 (fails_first 1 (codes "liars") _ _ _ c.in_err-write_all.ensures.failed)

pub returns-in_err-write_others-clause-written : goal.returns-in_err-write_others-clause-written
returns-in_err-write_others-clause-written g c =
    let p = err_from_is_err_and c.from_residual-in_err-write_others.result c.from_residual-in_err-write_others.ensures.1 in
    rw p.1 (written_cut 1 (codes "liars") _ _ _ _ _ c.in_ok-write_all.ensures.ok c.in_err-write_others.ensures.written)

pub returns-clause-written : goal.returns-clause-written
returns-clause-written g c =
    let words = words_of c.args.indices.now (answers c.args.session.now) in
    let first = g.P.Ports.world c.write_all.new.ports in
    let second = g.P.Ports.world c.write_others.new.ports in
    let last = g.P.Ports.world c.write_all-2.new.ports in
    let end = written_both 1 (10 ∷ []) c.write_all-2.result second last c.write_all-2.ensures.ok c.write_all-2.ensures.failed in
    let rest = written_next 1 words (10 ∷ []) c.write_all-2.result first second last c.in_ok-write_others.ensures.written end in
    written_next 1 (codes "liars") (words ++ 10 ∷ []) c.write_all-2.result (g.P.Ports.world c.args.ports.now) first last c.in_ok-write_all.ensures.ok rest

pub returns-in_err-write_all-clause-others : goal.returns-in_err-write_all-clause-others
returns-in_err-write_all-clause-others g c = c.in_err-write_all.ensures.others

pub returns-in_err-write_others-clause-others : goal.returns-in_err-write_others-clause-others
returns-in_err-write_others-clause-others g c = touches_more _ _ _ _ c.in_ok-write_all.ensures.others c.in_err-write_others.ensures.others

pub returns-clause-others : goal.returns-clause-others
returns-clause-others g c = touches_more _ _ _ _ (touches_more _ _ _ _ c.in_ok-write_all.ensures.others c.in_ok-write_others.ensures.others) c.write_all-2.ensures.others
