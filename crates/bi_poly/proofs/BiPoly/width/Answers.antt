use Rattle.std.proofs.Common.{◌≡◌, ◌≤◌, [], max, length, inl, inr, sym, ap, subst, ◌∙◌, arith}
use Rattle.std.proofs.Math.Nat.{le-max_left, le-max_right, max-le}
use Rattle.std.proofs.lemmas.Bool.{cases_lt}
use Rattle.std.proofs.lemmas.List.{get_or_past}
use Rattle.bi_poly.specs.Rows.{row}
use Rattle.bi_poly.proofs.Degree.{ord_max-nat}
use Rattle.bi_poly.proofs.BiPoly.width.Goals as goal

pub loop-j-preserved : goal.loop-j-preserved
loop-j-preserved c =
    let q = c.args.self.now in
    let w = c.loop-j.width in
    let j = c.loop-j.j in
    let left = le-max_left w (length (row q j)) in
    let right = le-max_right w (length (row q j)) in
    let is = c.max-width.ensures ∙ ord_max-nat w (length c.row.result.now) ∙ ap (λ r. max w (length r)) c.row.ensures in
    record {
      enough = λ k l.
          elim (cases_lt k j) [
            | inl below ↦ let old = c.loop-j.invariant.enough k below in omega arith
            | inr past ↦ let e : k ≡ j = omega arith in subst (λ k. length (row q k) ≤ c.max-width.result) (sym e) (omega arith)
          ];
      least = λ n h.
          let one = c.loop-j.invariant.least n h in
          let two = h j in
          let most = max-le one two in
          omega arith;
    }

pub returns : goal.returns
returns c = record {
  enough = λ k.
      elim (cases_lt k c.loop-j.j) [
        | inl below ↦ c.loop-j.invariant.enough k below
        | inr past ↦ let e = ap length (get_or_past c.args.self.now k [] (omega arith)) in omega arith
      ];
  least = c.loop-j.invariant.least;
}
