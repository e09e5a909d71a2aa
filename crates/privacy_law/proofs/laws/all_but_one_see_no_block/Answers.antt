use Rattle.privacy_law.proofs.SameBitmaps.{same_bitmap, IsBijection-xor}
use Rattle.privacy_law.proofs.laws.all_but_one_see_no_block.Goals as goal

pub returns-clause-bijection : goal.returns-clause-bijection
returns-clause-bijection c = IsBijection-xor _ c.args.n c.args.r c.args.left_out c.args.b c.args.b2

pub returns-clause-same_bitmaps : goal.returns-clause-same_bitmaps
returns-clause-same_bitmaps c coins h index first last ne =
    same_bitmap coins c.args.n c.args.r c.args.left_out c.args.b c.args.b2 index h.size c.requires.block c.requires.other
    c.requires.first c.requires.last first last ne
