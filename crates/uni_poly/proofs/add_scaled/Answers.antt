use Rattle.std.proofs.Common.{◌≡◌, length, drop, arith, length-append, length-drop}
use Rattle.std.proofs.lemmas.List.{length-take}
use Rattle.gf256.specs.Polynomial.{coef}
use Rattle.gf256.specs.Rows.{multiple}
use Rattle.gf256.proofs.Added.{added-front}
use Rattle.gf256.proofs.RowSums.{multiple-past}
use Rattle.uni_poly.proofs.add_scaled.Goals as goal

pub returns : goal.returns
unfolding coef
returns c =
    let acc = c.args.acc.now in
    let p = c.args.p.now in
    let front = c.add_scaled_row.new.acc in
    let size = c.add_scaled_row.auto.acc in
    let long : length front ≡ length p = omega (arith, size, c.requires, length-take (length p) acc) in
    record {
      size = omega (arith, long, c.requires, length-append front (drop (length p) acc), length-drop (length p) acc);
      each =
          added-front front acc (multiple p c.args.factor) (length p) c.requires long
          (λ k l. multiple-past p c.args.factor k l) c.add_scaled_row.ensures;
    }
