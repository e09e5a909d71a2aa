use Rattle.std.proofs.Common.{rules, ◌≡◌, ◌+◌, ◌-◌, ◌∙◌, ◌++◌, ℕ, List, ap, sym, subst, take, drop, arith}
use Rattle.std.proofs.lemmas.Result.{err_from_is_err_and}
use Rattle.hex.specs.Hex.{encode_lower}
use Rattle.port_trait.specs.Number.{OUTPUT}
use Rattle.port_trait.specs.Whole.{FailsWithin}
use Rattle.port_trait.proofs.Cells.{touches_more}
use Rattle.block_decoder.proofs.HexText.{encode_lower-nil, encode_lower-pieces, encode_lower-take}
use Rattle.list_tool.specs.Pending.{HasPut}
use Rattle.list_tool.proofs.Putting.{cut_first, put_both, put_cut, put_none}
use Rattle.list_tool.proofs.pending.Pending.put_hexadecimal.Goals as goal

pub pieces-init : goal.pieces-init
pieces-init g c =
    let w = g.P.Ports.world c.args.ports.now in
    record {
      within = omega arith;
      so_far = subst (λ (text : List ℕ). HasPut (c.args.self.now ++ text) c.args.self.now w w) (sym encode_lower-nil) (put_none c.args.self.now w);
      others = search rules;
    }

pub returns-in_err-put_piece-clause-puts : goal.returns-in_err-put_piece-clause-puts
returns-in_err-put_piece-clause-puts g c =
    let at = c.pieces.at in
    let bytes = c.args.bytes.now in
    let size = c.min-end.result - at in
    let w = g.P.Ports.world c.args.ports.now in
    let v = g.P.Ports.world c.pieces.ports in
    let u = g.P.Ports.world c.put_piece.new.ports in
    let own = encode_lower (take size (drop at bytes)) in
    let rest = encode_lower (drop size (drop at bytes)) in
    let p = err_from_is_err_and c.from_residual.result c.from_residual.ensures.1 in
    rw p.1 (subst (λ (text : List ℕ). FailsWithin OUTPUT (c.args.self.now ++ text) w u) (sym (encode_lower-pieces at size bytes))
    (put_cut (encode_lower (take at bytes)) (own ++ rest) c.args.self.now c.pieces.self w v u c.pieces.invariant.so_far
    (cut_first own rest c.pieces.self v u c.in_err-put_piece.ensures.puts)))

pub pieces-preserved : goal.pieces-preserved
pieces-preserved g c =
    let at = c.pieces.at in
    let bytes = c.args.bytes.now in
    let size = c.min-end.result - at in
    let w = g.P.Ports.world c.args.ports.now in
    let v = g.P.Ports.world c.pieces.ports in
    let u = g.P.Ports.world c.put_piece.new.ports in
    let own = encode_lower (take size (drop at bytes)) in
    let end : at + size ≡ c.min-end.result = omega arith in
    let whole : encode_lower (take at bytes) ++ own ≡ encode_lower (take c.min-end.result bytes)
    = sym (encode_lower-take at size bytes) ∙ ap (λ n. encode_lower (take n bytes)) end in
    record {
      within = omega arith;
      so_far = subst (λ (text : List ℕ). HasPut (c.args.self.now ++ text) c.put_piece.new.self w u) whole
          (put_both (encode_lower (take at bytes)) own c.args.self.now c.pieces.self w v u c.pieces.invariant.so_far
          c.put_piece.new.self c.in_ok-put_piece.ensures.puts);
      others = touches_more _ _ _ _ c.pieces.invariant.others c.put_piece.ensures.others;
    }

pub returns-in_err-put_piece-clause-others : goal.returns-in_err-put_piece-clause-others
returns-in_err-put_piece-clause-others g c = touches_more _ _ _ _ c.pieces.invariant.others c.put_piece.ensures.others
