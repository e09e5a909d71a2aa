-- The number of turns.
use Rattle.std.proofs.Common.{◌≡◌, ℕ, zero, suc, ◌+◌, ◌-◌, ◌*◌, ◌^◌, ◌<◌, ◌≤◌, arith, subst}
use Rattle.std.proofs.Math.Nat.{pow-suc, pow-zero}
use lib.Count.{leading_length}
use Rattle.key_search.specs.Standing.{turns_of}

-- so many halvings leave none of the rows
pub rows-lt-turns : (rows : ℕ) → rows < 2 ^ 32 → rows < 2 ^ turns_of rows
rows-lt-turns rows few =
    let top = leading_length 32 rows few in
    let is : top.0 ≡ turns_of rows = omega (arith, top.1) in
    subst (λ (m : ℕ). rows < 2 ^ m) is top.2

-- and one halving less leaves some
pub turns-le-rows : (rows : ℕ) → 1 ≤ rows → rows < 2 ^ 32 → 2 ^ (turns_of rows - 1) ≤ rows
turns-le-rows rows some few =
    let top = leading_length 32 rows few in
    let is : top.0 ≡ turns_of rows = omega (arith, top.1) in
    subst (λ (m : ℕ). 2 ^ (m - 1) ≤ rows) is (go top.0 top.2 top.3)
  where
    go : (m : ℕ) → rows < 2 ^ m → 2 ^ m ≤ 2 * rows + 1 → 2 ^ (m - 1) ≤ rows
    go zero below above = let one = pow-zero 2 in absurd (omega arith)
    go (suc m) below above =
        let twice = pow-suc 2 m in
        let e : suc m - 1 ≡ m = omega arith in
        rw e (omega arith)
