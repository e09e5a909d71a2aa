use Rattle.std.proofs.Common.{◌≡◌, ◌+◌, ◌-◌, ◌*◌, ap, ◌∙◌, subst, length, take, drop, arith}
use Rattle.std.proofs.lemmas.List.{take_rest}
use borrow.Rule.Slice.PartMut.{put_mid}
use Rattle.uni_poly.specs.Coefficients.{IsSum}
use Rattle.privacy_law.proofs.ChangedRows.{written_row, length-row_slice}
use Rattle.privacy_law.proofs.shamir.add_to_row.Goals as goal

pub returns : goal.returns
returns c =
    let t = c.args.t in
    let m = c.args.row * t in
    let coins = c.args.coins.now in
    let g = c.args.g.now in
    let new = c.add_into.new.acc in
    let size : m + t - m ≡ t = omega arith in
    let rest = take_rest g 1 in
    let sum = subst (λ k. IsSum new (take k (drop m coins)) (drop 1 g)) size (subst (λ q. IsSum new (take (m + t - m) (drop m coins)) q) rest c.add_into.ensures) in
    let long = c.add_into.auto.acc ∙ ap (λ k. length (take k (drop m coins))) size ∙ length-row_slice coins t c.args.row c.requires.row in
    ap (λ k. put_mid m k coins new) size ∙ written_row coins g new t c.args.row c.requires.row long c.requires.few sum
