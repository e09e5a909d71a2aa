use Rattle.std.proofs.Common.{◌≡◌, ℕ, ◌-◌, ◌^◌, ◌<◌, ◌≤◌, ap, subst}
use Rattle.key_search.specs.Standing.{Standing, turns_of}
use Rattle.key_search.proofs.Turns.{rows-lt-turns, turns-le-rows}
use Rattle.key_search.proofs.search.Search.turns.Goals as goal

pub returns-clause-digits : goal.returns-clause-digits
returns-clause-digits c =
    let held = c.self.inside.rows in
    let few = c.self.invariant.few in
    let same : held ≡ c.args.self.now.rows = ap (λ (s : Standing). s.rows) c.self.view_is in (
      subst (λ (n : ℕ). 2 ^ (turns_of held - 1) ≤ n) same (turns-le-rows held c.self.invariant.some few),
      subst (λ (n : ℕ). n < 2 ^ turns_of held) same (rows-lt-turns held few),
    )
