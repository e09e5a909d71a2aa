use Rattle.std.proofs.Common.{◌≡◌, ◌^◌, length, replicate, refl, sym, subst, arith}
use Rattle.std.proofs.lemmas.List.{get_or-replicate}
use Rattle.key_table.specs.Counting.{IsRun, run_at}
use Rattle.key_table.specs.declared.runs.Run.{Run}
use Rattle.key_table.proofs.Counting.{run_none}
use Rattle.key_table.proofs.entries.SortedEntries.runs.Goals as goal

pub loop-entry-init : goal.loop-entry-init
loop-entry-init c = (
  refl,
  λ k lt.
      let list = c.args.self.now.pairs in
      let none : Run = record { start = 0; fullest = 1 } in
      let is : run_at (replicate 21 none) k ≡ none = get_or-replicate 21 k none none lt in
      subst (IsRun (2 ^ k) list 0) (sym is) (run_none (2 ^ k) list),
)

pub count_in_runs-requires-clause-counted : goal.count_in_runs-requires-clause-counted
count_in_runs-requires-clause-counted c = c.loop-entry.invariant.1

pub loop-entry-preserved : goal.loop-entry-preserved
loop-entry-preserved c = (c.count_in_runs.ensures.powers, c.count_in_runs.ensures.counted)

pub returns-clause-powers : goal.returns-clause-powers
returns-clause-powers c = c.loop-entry.invariant.0

pub returns-clause-counted : goal.returns-clause-counted
returns-clause-counted c = λ k lt.
    let list = c.args.self.now.pairs in
    let all : c.loop-entry.entry ≡ length list = omega (arith, c.loop-entry-test.false, c.loop-entry.auto.entry-end, c.count-count.ensures.count) in
    subst (λ n. IsRun (2 ^ k) list n (run_at c.loop-entry.runs k)) all (c.loop-entry.invariant.1 k lt)
