use Rattle.std.proofs.Common.{◌≡◌, ◌≤◌, ℕ, List, [], length, map, All, ap, subst, inl, inr, arith}
use Rattle.std.proofs.lemmas.Bool.{cases_lt}
use Rattle.std.proofs.lemmas.List.{get_or_past, length-map}
use Rattle.std.proofs.lemmas.List.Elements.{All-get_or, All-map}
use Rattle.bi_poly.specs.Rows.{IsWithinLimits}
use Rattle.algebra_tests.proofs.rows.is_within_limits.Goals as goal

limits_of : {V : Type 0} (items : V → List ℕ) (rows : List V) (q : List (List ℕ)) → map items rows ≡ q → length q ≤ 65537 → All (λ r. length (items r) ≤ 2147483648) rows → IsWithinLimits q
limits_of items rows q view few each = record {
  rows = few;
  each = λ j.
      elim (cases_lt j (length q)) [
        | inl below ↦ All-get_or (λ r. length r ≤ 2147483648) q j [] below (subst (λ q. All (λ r. length r ≤ 2147483648) q) view (All-map (λ r. length r ≤ 2147483648) items rows each))
        | inr past ↦ let e = ap length (get_or_past q j [] (omega arith)) in omega arith
      ];
}

pub returns : goal.returns
returns c = λ t.
    let view = c.rows-rows.ensures in
    let lengths = ap length view in
    let same = length-map c.rows-rows.result.now (λ r. r.items) in
    limits_of (λ r. r.items) c.rows-rows.result.now c.args.q.now view (omega arith) (λ k d l. c.loop-row.invariant k (omega arith) d)
