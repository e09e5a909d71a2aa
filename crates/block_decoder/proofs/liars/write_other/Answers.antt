use Rattle.std.proofs.Common.{◌∙◌, ℕ, List, [], true, false, sym, ap, subst}
use Rattle.wire_frames.specs.Answer.{with_answer}
use Rattle.port_trait.specs.Number.{OUTPUT}
use Rattle.port_trait.specs.Moves.{gave}
use Rattle.port_trait.specs.Written.{Written}
use Rattle.port_trait.proofs.Pieces.{gave_none}
use Rattle.block_decoder.specs.Usable.{payload_of}
use Rattle.block_decoder.proofs.FirstAnswers.{words-one}
use Rattle.block_decoder.proofs.liars.write_other.Goals as goal

pub returns-then-is_other-clause-written : goal.returns-then-is_other-clause-written
returns-then-is_other-clause-written g c =
    let one = with_answer c.args.index (payload_of c.args.session.now c.args.index) [] in
    let is = words-one c.args.indices.now c.args.index one true (rw c.if-is_other.true at c.is_other.ensures) in
    subst (λ (text : List ℕ). Written OUTPUT text c.write_number.result (g.P.Ports.world c.args.ports.now)
    (g.P.Ports.world c.write_number.new.ports)) (sym is) (rw c.from.ensures at c.write_number.ensures.written)

pub returns-clause-written : goal.returns-clause-written
returns-clause-written g c =
    let one = with_answer c.args.index (payload_of c.args.session.now c.args.index) [] in
    let is = words-one c.args.indices.now c.args.index one false (rw c.if-is_other.false at c.is_other.ensures) in
    sym (ap (λ (text : List ℕ). gave text ((g.P.Ports.world c.args.ports.now).at OUTPUT)) is ∙ gave_none ((g.P.Ports.world c.args.ports.now).at OUTPUT))

pub returns-then-is_other-clause-others : goal.returns-then-is_other-clause-others
returns-then-is_other-clause-others g c = c.write_number.ensures.others
