use Rattle.std.proofs.Common.{◌+◌, min, sym, ap, subst, ◌∙◌, arith}
use Rattle.std.specs.Prelude.{MatchOption}
use Rattle.uni_poly.specs.Coefficients as one
use Rattle.bi_poly.specs.Degree.{IsOrder}
use Rattle.bi_poly.proofs.Degree.{IsZeroBelow, IsOrderBelow, order-none, order-some, order-all}
use Rattle.bi_poly.proofs.BiPoly.order_in_x.Goals as goal
use Rattle.bi_poly.proofs.BiPoly.order_in_x.Goals.{in-Some, in_default}

pub loop-j-preserved : goal.loop-j-preserved
loop-j-preserved c =
    let q = c.args.self.now in
    let n = c.loop-j.j in
    elim c.match-order.branch [
      | in-Some w ↦
          let i = w.in-Some.i in
          let is = w.min.ensures ∙ ap (λ x. min x i) w.unwrap_or.ensures in
          let at = order-some q n i c.loop-j.least c.loop-j.invariant (subst (λ r. IsOrder r i) c.row.ensures w.in-Some.ensures) in
          subst (λ o. MatchOption o (IsZeroBelow q (n + 1)) (IsOrderBelow q (n + 1))) (sym w.least-is) (subst (IsOrderBelow q (n + 1)) (sym is) at)
      | in_default w ↦
          let at = order-none q n c.loop-j.least c.loop-j.invariant (subst one.IsZero c.row.ensures w.in_default.ensures) in
          subst (λ o. MatchOption o (IsZeroBelow q (n + 1)) (IsOrderBelow q (n + 1))) (sym w.least-is) at
    ]

pub returns : goal.returns
returns c = order-all c.args.self.now c.loop-j.j c.loop-j.least (omega arith) c.loop-j.invariant
