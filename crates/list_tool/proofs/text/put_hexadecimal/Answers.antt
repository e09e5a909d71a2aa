use Rattle.std.proofs.Common.{[], ◌∷◌, ◌++◌}
use Rattle.std.specs.Prelude.{codes}
use Rattle.std.specs.List.{concat}
use Rattle.std.proofs.lemmas.Result.{err_from_is_err_and}
use Rattle.hex.specs.Hex.{encode_lower}
use Rattle.port_trait.proofs.Cells.{touches_more}
use Rattle.block_decoder.specs.Text.{block_line}
use Rattle.list_tool.proofs.Putting.{cut_first, put_cut, put_next}
use Rattle.list_tool.proofs.text.put_hexadecimal.Goals as goal

pub returns-in_err-put_all-clause-puts : goal.returns-in_err-put_all-clause-puts
returns-in_err-put_all-clause-puts g c =
    let first = concat (codes "present\t" ∷ c.args.key.now ∷ codes "\t" ∷ []) in
    let p = err_from_is_err_and c.from_residual.result c.from_residual.ensures.1 in
    rw p.1 (cut_first first (block_line c.args.value.now) c.args.pending.now _ _ c.in_err-put_all.ensures.puts)

pub returns-in_err-put_hexadecimal-clause-puts : goal.returns-in_err-put_hexadecimal-clause-puts
unfolding block_line
returns-in_err-put_hexadecimal-clause-puts g c =
    let first = concat (codes "present\t" ∷ c.args.key.now ∷ codes "\t" ∷ []) in
    let digits = encode_lower c.args.value.now in
    let w = g.P.Ports.world c.args.ports.now in
    let v = g.P.Ports.world c.put_all.new.ports in
    let u = g.P.Ports.world c.put_hexadecimal.new.ports in
    let p = err_from_is_err_and c.from_residual-in_err-put_hexadecimal.result c.from_residual-in_err-put_hexadecimal.ensures.1 in
    rw p.1 (put_cut first (digits ++ codes "\n") c.args.pending.now c.put_all.new.self w v u c.in_ok-put_all.ensures.puts
    (cut_first digits (codes "\n") c.put_all.new.self v u c.in_err-put_hexadecimal.ensures.puts))

pub returns-clause-puts : goal.returns-clause-puts
unfolding block_line
returns-clause-puts g c =
    let first = concat (codes "present\t" ∷ c.args.key.now ∷ codes "\t" ∷ []) in
    let digits = encode_lower c.args.value.now in
    let w = g.P.Ports.world c.args.ports.now in
    let v = g.P.Ports.world c.put_all.new.ports in
    let u = g.P.Ports.world c.put_hexadecimal.new.ports in
    let z = g.P.Ports.world c.put.new.ports in
    let rest = put_next digits (codes "\n") c.put_all.new.self c.put_hexadecimal.new.self v u z c.in_ok-put_hexadecimal.ensures.puts
    c.put.result c.put.new.self c.put.ensures.puts in
    put_next first (digits ++ codes "\n") c.args.pending.now c.put_all.new.self w v z c.in_ok-put_all.ensures.puts
    c.put.result c.put.new.self rest

pub returns-clause-others : goal.returns-clause-others
returns-clause-others g c = touches_more _ _ _ _ (touches_more _ _ _ _ c.put_all.ensures.others c.put_hexadecimal.ensures.others) c.put.ensures.others
