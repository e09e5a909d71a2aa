use Rattle.std.proofs.Common.{◌∙◌, ap, subst, [], ◌∷◌, List, ℕ, length}
use Rattle.std.specs.Prelude.{flat_map}
use Rattle.port_trait.specs.Number.{OUTPUT}
use Rattle.port_trait.specs.Moves.{gave}
use Rattle.port_trait.specs.Written.{Written}
use Rattle.port_trait.proofs.Pieces.{written_next}
use Rattle.block_decoder.specs.Text.{block_line, line_of}
use Rattle.port_trait.proofs.Cells.{touches_more, fails_first}
use Rattle.std.proofs.lemmas.Result.{err_from_is_err_and}
use Rattle.block_decoder.proofs.write.write_listing.Goals as goal

pub returns-clause-written : goal.returns-clause-written
returns-clause-written g c =
    let head = line_of (98 ∷ 108 ∷ 111 ∷ 99 ∷ 107 ∷ 115 ∷ []) in
    let first = ap (λ n. gave (head (n ∷ [])) ((g.P.Ports.world c.args.ports.now).at OUTPUT)) c.len.ensures.count in
    let before = g.P.Ports.world c.write_line.new.ports in
    let after = g.P.Ports.world c.write_blocks.new.ports in
    let lines = subst (λ (bs : List (List ℕ)). Written OUTPUT (flat_map block_line bs) c.write_blocks.result before after) c.blocks-2.ensures.all c.write_blocks.ensures.written in
    written_next 1 (head (length c.args.listing.now ∷ [])) (flat_map block_line c.args.listing.now) c.write_blocks.result _ before after (c.in_ok-write_line.ensures.written ∙ first) lines

pub returns-in_err-write_line-clause-others : goal.returns-in_err-write_line-clause-others
returns-in_err-write_line-clause-others g c = c.in_err-write_line.ensures.others

pub returns-clause-others : goal.returns-clause-others
returns-clause-others g c = touches_more _ _ _ _ c.in_ok-write_line.ensures.others c.write_blocks.ensures.others

pub returns-in_err-write_line-clause-written : goal.returns-in_err-write_line-clause-written
returns-in_err-write_line-clause-written g c =
    let p = err_from_is_err_and c.from_residual.result c.from_residual.ensures.1 in
    rw (p.1, ← c.len.ensures.count) (fails_first 1 _ _ _ _ c.in_err-write_line.ensures.written)
