use Rattle.std.proofs.Common.{arith}
use Rattle.uni_poly.proofs.Coefficients.{bytes_from_get_or}
use Rattle.commands.proofs.HonestReplies.{replies_honestly, asks_a_query}
use Rattle.pir_tool.proofs.laws.reply_is_the_honest_frame.Goals as goal

pub returns : goal.returns
returns c =
    let bytes = bytes_from_get_or c.args.coins.now (λ k. (c.type_inv.coins k).fits) in
    λ matrix workers. replies_honestly c.args.plan.now c.args.blocks.now c.requires.blocks c.args.coins.now c.args.index matrix workers
    (asks_a_query c.args.plan.now c.args.blocks.now c.args.coins.now c.args.index c.requires.plan c.requires.blocks c.requires.coins bytes c.requires.index (let l = c.ranges.index.fits in omega arith))
