use Rattle.privacy_law.proofs.SameBitmaps.{written_bit}
use Rattle.privacy_law.proofs.xor.flip_bit.Goals as goal

pub returns : goal.returns
returns c = written_bit c.args.coins.now c.args.size c.args.piece c.args.row c.requires.room c.requires.row
