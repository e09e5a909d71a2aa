use Rattle.std.proofs.Common.{◌≡◌, ◌≢◌, ◌+◌, ◌-◌, ◌*◌, ◌%◌, ◌^◌, ◌<◌, ◌≤◌, length, set, sym, ap, subst, ◌∙◌, arith, inl, inr}
use Rattle.std.proofs.lemmas.Bool.{cases_eq, cases_lt}
use Rattle.std.proofs.lemmas.List.{get_or-set_other, get_or-set_same, get_or_default}
use Rattle.std.proofs.lemmas.Nat.{one_shl, pow_pos}
use Rattle.key_table.specs.Counting.{IsRun, row_at, run_at}
use Rattle.key_table.specs.declared.runs.Run.{Run}
use Rattle.key_table.proofs.Counting.{after, run_new, run_on, same_below, within_below}
use Rattle.key_table.proofs.RowOrder.{never_fall}
use Rattle.key_table.proofs.entries.SortedEntries.count_in_runs.Goals as goal

pub loop-i-init : goal.loop-i-init
loop-i-init c = (λ k lt. c.requires.counted k (omega (arith, lt)), λ k lt ge. absurd (omega (arith, lt, ge)))

pub returns-then-row-clause-counted : goal.returns-then-row-clause-counted
returns-then-row-clause-counted c = λ k lt.
    let list = c.args.self.now in
    let i = c.loop-i.i in
    let p = 20 - i in
    let entry = c.args.entry in
    let runs = c.loop-i.runs in
    let is : (1 * 2 ^ p) % 2 ^ 32 ≡ 2 ^ p = one_shl p 32 (omega arith) in
    let low : row_at (2 ^ p) list.pairs entry < 2 ^ p =
    subst (λ r. row_at r list.pairs entry < r) is (omega (arith, c.row.ensures.row, c.row.ensures.within (omega (arith, is, pow_pos p)))) in
    let same : row_at (2 ^ p) list.pairs entry ≡ row_at (2 ^ p) list.pairs (entry - 1) =
    ap (λ r. row_at r list.pairs entry) (sym is) ∙ sym c.row.ensures.row ∙ c.if-row.true ∙ c.row-in-loop-i.ensures.row
    ∙ ap (λ r. row_at r list.pairs c.saturating_sub-before.result) is ∙ ap (row_at (2 ^ p) list.pairs) c.saturating_sub-before.ensures in
    elim (cases_lt k (21 - i)) [
      | inl before ↦
          let le : k ≤ p = omega (arith, before, c.loop-i-test.true) in
          run_on (2 ^ k) list.pairs entry (run_at runs k) (never_fall (2 ^ k) list c.requires.ascend) c.requires.within
          (within_below list.pairs entry k p le low) (same_below list.pairs entry (entry - 1) k p le same) (c.loop-i.invariant.0 k before)
      | inr behind ↦ c.loop-i.invariant.1 k lt behind
    ]

pub next-requires : goal.next-requires
next-requires c =
    let p = 20 - c.loop-i.i in
    let runs = c.loop-i.runs in
    let none : Run = record { start = 0; fullest = 1 } in
    let there : p < length runs = omega (arith, c.loop-i.auto.runs, c.requires.powers) in
    let own = get_or_default runs p (record { start = 0; fullest = 0 }) none there in
    omega (arith, ap (λ (r : Run). r.start) own, (c.loop-i.invariant.0 p (omega (arith, c.loop-i-test.true))).within)

pub loop-i-preserved : goal.loop-i-preserved
loop-i-preserved c =
    let list = c.args.self.now in
    let i = c.loop-i.i in
    let p = 20 - i in
    let entry = c.args.entry in
    let runs = c.loop-i.runs in
    let new = c.next.result in
    let none : Run = record { start = 0; fullest = 1 } in
    let is : (1 * 2 ^ p) % 2 ^ 32 ≡ 2 ^ p = one_shl p 32 (omega arith) in
    let there : p < length runs = omega (arith, c.loop-i.auto.runs, c.requires.powers) in
    let own = get_or_default runs p (record { start = 0; fullest = 0 }) none there in
    let low : row_at (2 ^ p) list.pairs entry < 2 ^ p =
    subst (λ r. row_at r list.pairs entry < r) is (omega (arith, c.row.ensures.row, c.row.ensures.within (omega (arith, is, pow_pos p)))) in
    let differ : row_at (2 ^ p) list.pairs entry ≢ row_at (2 ^ p) list.pairs (entry - 1) = λ same.
    c.if-row.false
    (c.row.ensures.row ∙ ap (λ r. row_at r list.pairs entry) is ∙ same ∙ sym (ap (row_at (2 ^ p) list.pairs) c.saturating_sub-before.ensures)
    ∙ ap (λ r. row_at r list.pairs c.saturating_sub-before.result) (sym is) ∙ sym c.row-in-loop-i.ensures.row) in
    let begun : IsRun (2 ^ p) list.pairs (entry + 1) (run_at (set runs p new) p) =
    subst (IsRun (2 ^ p) list.pairs (entry + 1))
    (sym (get_or-set_same runs p new none there ∙ c.next.ensures
    ∙ ap (λ (r : Run). after r entry) own))
    (run_new (2 ^ p) list.pairs entry (run_at runs p) (never_fall (2 ^ p) list c.requires.ascend) c.requires.within low differ
    (c.loop-i.invariant.0 p (omega (arith, c.loop-i-test.true)))) in (
      λ k lt. subst (IsRun (2 ^ k) list.pairs entry) (sym (get_or-set_other runs p k new none (omega (arith, lt))))
          (c.loop-i.invariant.0 k (omega (arith, lt))),
      λ k lt ge. elim (cases_eq k p) [
        | inl same ↦ subst (λ j. IsRun (2 ^ j) list.pairs (entry + 1) (run_at (set runs p new) j)) (sym same) begun
        | inr other ↦ subst (IsRun (2 ^ k) list.pairs (entry + 1)) (sym (get_or-set_other runs p k new none other))
            (c.loop-i.invariant.1 k lt (omega (arith, ge, other, c.loop-i-test.true)))
      ],
    )

pub returns-clause-counted : goal.returns-clause-counted
returns-clause-counted c = λ k lt. c.loop-i.invariant.1 k lt (omega (arith, c.loop-i-test.false))
