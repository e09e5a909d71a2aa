use Rattle.std.proofs.Common.{◌≡◌, ◌∙◌, get_or, ap, arith}
use Rattle.chor_xor.specs.Bitmap.{bitmap, cleared}
use Rattle.chor_xor.proofs.Shares.{random-is, last-is}
use Rattle.chor_xor.proofs.bitmap.bitmap_into.Goals as goal

pub returns-then-piece-others : goal.returns-then-piece-others
returns-then-piece-others c =
    random-is c.args.coins.now c.clear_unused.new.bitmap c.args.n c.args.r c.args.block c.args.index _ c.requires.room (λ e. omega (arith, e, c.requires.first)) (omega arith)
    (λ k. c.clear_unused.ensures k ∙ ap (λ xs. cleared c.args.r k (get_or xs k 0)) c.copy_from_slice.ensures.after)

pub returns-else-piece-others : goal.returns-else-piece-others
returns-else-piece-others c =
    let same : c.args.n ≡ c.args.index = omega (arith, c.requires.first, c.requires.last) in
    last-is c.args.coins.now c.sum_pieces.new.out c.clear_unused-else-piece-others.new.bitmap c.args.n c.args.r c.args.block _ c.requires.room c.requires.block (omega arith)
    c.sum_pieces.ensures
    c.clear_unused-else-piece-others.ensures
    ∙ ap (bitmap c.args.coins.now c.args.n c.args.r c.args.block) same
