use Rattle.std.proofs.Common.{◌≡◌, ◌-◌, ◌^◌, length, max, ap, ap₂, subst, ◌∙◌, arith}
use Rattle.std.proofs.lemmas.List.{get_or_default, take_all}
use Rattle.key_table.specs.Shapes.{BestOf}
use Rattle.key_table.specs.Width.{fullest}
use Rattle.key_table.specs.declared.runs.Run.{Run}
use Rattle.key_table.proofs.Shaping.{best_of_all, fault_of_most, none_of_all}
use Rattle.key_table.proofs.entries.SortedEntries.shape.Goals as goal

pub loop-power-init : goal.loop-power-init
loop-power-init c = λ k lt. absurd (omega (arith, lt))

pub loop-power-preserved : goal.loop-power-preserved
loop-power-preserved c = c.better-best.ensures c.loop-power.invariant

pub returns-in-Some : goal.returns-in-Some
returns-in-Some c =
    let list = c.args.self.now in
    let all : c.loop-power.power ≡ 21 = omega arith in
    best_of_all list c.in-Some.shape (subst (BestOf list 21) c.in-Some.is (subst (λ n. BestOf list n c.loop-power.best) all c.loop-power.invariant))

pub returns-in-None : goal.returns-in-None
returns-in-None c =
    let list = c.args.self.now in
    let all : c.loop-power.power ≡ 21 = omega arith in
    let none = subst (BestOf list 21) c.in-None.is (subst (λ n. BestOf list n c.loop-power.best) all c.loop-power.invariant) in
    fault_of_most list c.shape_of.result (none_of_all list none) c.shape_of.ensures

pub fullest_of-requires : goal.fullest_of-requires
fullest_of-requires c =
    let power = c.loop-power.power in
    let h = c.runs-runs.ensures.counted power c.loop-power-test.true in
    let own = get_or_default c.runs-runs.result power (record { start = 0; fullest = 0 }) (record { start = 0; fullest = 1 })
    (omega (arith, c.loop-power-test.true, c.runs-runs.ensures.powers)) in
    omega (arith, ap (λ (r : Run). r.start) own, h.within, c.count-count.ensures.count)

pub better-best-requires-clause-fullest : goal.better-best-requires-clause-fullest
better-best-requires-clause-fullest c =
    let pairs = c.args.self.now.pairs in
    let power = c.loop-power.power in
    let h = c.runs-runs.ensures.counted power c.loop-power-test.true in
    let own = get_or_default c.runs-runs.result power (record { start = 0; fullest = 0 }) (record { start = 0; fullest = 1 })
    (omega (arith, c.loop-power-test.true, c.runs-runs.ensures.powers)) in
    c.fullest_of.ensures ∙ ap₂ (λ (r : Run) n. max r.fullest (n - r.start)) own c.count-count.ensures.count
    ∙ h.counted.fullest ∙ ap (fullest (2 ^ power)) (take_all (length pairs) pairs (omega arith))

pub better-best-requires-clause-short : goal.better-best-requires-clause-short
better-best-requires-clause-short c =
    let power = c.loop-power.power in
    let h = c.runs-runs.ensures.counted power c.loop-power-test.true in
    let own = get_or_default c.runs-runs.result power (record { start = 0; fullest = 0 }) (record { start = 0; fullest = 1 })
    (omega (arith, c.loop-power-test.true, c.runs-runs.ensures.powers)) in
    let is = c.fullest_of.ensures ∙ ap₂ (λ (r : Run) n. max r.fullest (n - r.start)) own c.count-count.ensures.count in
    omega (arith, is, h.counted.few, c.count-count.ensures.ascend.few)
