use Rattle.std.proofs.Common.{[], ◌∷◌, ◌++◌, ap}
use Rattle.std.specs.Prelude.{flat_map, codes}
use Rattle.std.proofs.lemmas.Result.{err_from_is_err_and}
use Rattle.hex.specs.Hex.{encode_lower}
use Rattle.port_trait.proofs.Cells.{fails_next, touches_more, fails_first}
use Rattle.port_trait.proofs.Pieces.{written_next, written_cut, written_both}
use Rattle.block_decoder.specs.Text.{agree_line, number_word, line_of}
use Rattle.block_decoder.proofs.reporting.write_agreement.Goals as goal

pub returns-in_err-write_all-clause-written : goal.returns-in_err-write_all-clause-written
unfolding agree_line
returns-in_err-write_all-clause-written g c =
    let p = err_from_is_err_and c.from_residual.result c.from_residual.ensures.1 in
    rw p.1 (fails_first 1 (codes "agree ") _ _ _ c.in_err-write_all.ensures.failed)

pub returns-in_err-write_hex-clause-written : goal.returns-in_err-write_hex-clause-written
unfolding agree_line
returns-in_err-write_hex-clause-written g c =
    let p = err_from_is_err_and c.from_residual-in_err-write_hex.result c.from_residual-in_err-write_hex.ensures.1 in
    let block = ap encode_lower c.block.ensures in
    rw (p.1, ← block) (written_cut 1 (codes "agree ") _ _ _ _ _ c.in_ok-write_all.ensures.ok c.in_err-write_hex.ensures.written)

pub returns-in_err-write_indices-clause-written : goal.returns-in_err-write_indices-clause-written
unfolding agree_line line_of
returns-in_err-write_indices-clause-written g c =
    let p = err_from_is_err_and c.from_residual-in_err-write_indices.result c.from_residual-in_err-write_indices.ensures.1 in
    let block = ap encode_lower c.block.ensures in
    let numbers = ap (flat_map number_word) c.indices.ensures in
    let rest = written_cut 1 (encode_lower c.block.result.now) (flat_map number_word c.indices.result.now) (10 ∷ [])
    (g.P.Ports.world c.write_all.new.ports) (g.P.Ports.world c.write_hex.new.ports) (g.P.Ports.world c.write_indices.new.ports)
    c.in_ok-write_hex.ensures.written c.in_err-write_indices.ensures.written in
    rw (p.1, ← block, ← numbers) (fails_next 1 (codes "agree ")
    (encode_lower c.block.result.now ++ (flat_map number_word c.indices.result.now ++ 10 ∷ [])) (g.P.Ports.world c.args.ports.now)
    (g.P.Ports.world c.write_all.new.ports) (g.P.Ports.world c.write_indices.new.ports) c.in_ok-write_all.ensures.ok rest)

pub returns-clause-written : goal.returns-clause-written
unfolding agree_line line_of
returns-clause-written g c =
    let block = ap encode_lower c.block.ensures in
    let numbers = ap (flat_map number_word) c.indices.ensures in
    let hex = encode_lower c.block.result.now in
    let words = flat_map number_word c.indices.result.now in
    let first = g.P.Ports.world c.write_all.new.ports in
    let second = g.P.Ports.world c.write_hex.new.ports in
    let third = g.P.Ports.world c.write_indices.new.ports in
    let last = g.P.Ports.world c.write_all-2.new.ports in
    let end = written_both 1 (10 ∷ []) c.write_all-2.result third last c.write_all-2.ensures.ok c.write_all-2.ensures.failed in
    let after = written_next 1 words (10 ∷ []) c.write_all-2.result second third last c.in_ok-write_indices.ensures.written end in
    let rest = written_next 1 hex (words ++ 10 ∷ []) c.write_all-2.result first second last c.in_ok-write_hex.ensures.written after in
    rw (← block, ← numbers) (written_next 1 (codes "agree ") (hex ++ (words ++ 10 ∷ [])) c.write_all-2.result (g.P.Ports.world c.args.ports.now) first last c.in_ok-write_all.ensures.ok rest)

pub returns-in_err-write_all-clause-others : goal.returns-in_err-write_all-clause-others
returns-in_err-write_all-clause-others g c = c.in_err-write_all.ensures.others

pub returns-in_err-write_hex-clause-others : goal.returns-in_err-write_hex-clause-others
returns-in_err-write_hex-clause-others g c = touches_more _ _ _ _ c.in_ok-write_all.ensures.others c.in_err-write_hex.ensures.others

pub returns-in_err-write_indices-clause-others : goal.returns-in_err-write_indices-clause-others
returns-in_err-write_indices-clause-others g c = touches_more _ _ _ _ (touches_more _ _ _ _ c.in_ok-write_all.ensures.others c.in_ok-write_hex.ensures.others) c.in_err-write_indices.ensures.others

pub returns-clause-others : goal.returns-clause-others
returns-clause-others g c =
    touches_more _ _ _ _ (touches_more _ _ _ _
    (touches_more _ _ _ _ c.in_ok-write_all.ensures.others c.in_ok-write_hex.ensures.others)
    c.in_ok-write_indices.ensures.others) c.write_all-2.ensures.others
