use Rattle.std.proofs.Common.{◌-◌, length, ap, ◌∙◌, sym}
use Rattle.chor_xor.specs.Bitmap.{unit_byte}
use Rattle.privacy_law.specs.Pieces.{added}
use Rattle.privacy_law.proofs.SameBitmaps.{xor_stays, xor_flips, piece_room}
use Rattle.privacy_law.proofs.xor.exchange.Goals as goal

pub returns-then-from-n : goal.returns-then-from-n
returns-then-from-n c = sym (xor_stays c.args.coins.now c.args.n c.args.r c.args.left_out c.args.b c.args.b2 (sym c.from.ensures ∙ c.if-from-n.true))

pub flip_bit-requires-clause-room : goal.flip_bit-requires-clause-room
flip_bit-requires-clause-room c =
    piece_room c.args.n c.args.left_out c.div_ceil-size.result c.args.r (length c.args.coins.now) c.requires.first c.requires.last
    (λ same. c.if-from-n.false (c.from.ensures ∙ same)) c.div_ceil-size.ensures c.requires.coins

pub flip_bit-requires-2-clause-room : goal.flip_bit-requires-2-clause-room
flip_bit-requires-2-clause-room c =
    piece_room c.args.n c.args.left_out c.div_ceil-size.result c.args.r (length c.flip_bit.new.coins) c.requires.first c.requires.last
    (λ same. c.if-from-n.false (c.from.ensures ∙ same)) c.div_ceil-size.ensures (c.flip_bit.auto.coins ∙ c.requires.coins)

pub returns : goal.returns
returns c =
    let piece = c.args.left_out - 1 in
    c.flip_bit-2.ensures ∙ ap (λ coins. added coins c.div_ceil-size.result piece (unit_byte c.args.b2)) c.flip_bit.ensures
    ∙ ap (λ s. added (added c.args.coins.now s piece (unit_byte c.args.b)) s piece (unit_byte c.args.b2)) c.div_ceil-size.ensures
    ∙ sym (xor_flips c.args.coins.now c.args.n c.args.r c.args.left_out c.args.b c.args.b2 (λ same. c.if-from-n.false (c.from.ensures ∙ same)))
