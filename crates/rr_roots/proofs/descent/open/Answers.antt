use Rattle.std.proofs.Common.{◌≡◌, ◌≤◌, ℕ, length, drop, ap, ◌∙◌, arith, Vec, Global}
use Rattle.std.proofs.lemmas.List.{length-map}
use Rattle.rr_roots.proofs.descent.open.Goals as goal

-- what is as much as something at most as much
fits_in : (a b c d : ℕ) → a ≡ b → b ≤ c → c ≡ d → a ≤ d
fits_in a b c d same fits rows = omega (arith, same, fits, rows)

pub strip_x-requires : goal.strip_x-requires
strip_x-requires c = c.requires.nonzero

pub values_at_bytes-values-requires-clause-enough : goal.values_at_bytes-values-requires-clause-enough
values_at_bytes-values-requires-clause-enough c =
    let there = ap length c.strip_x.ensures.quotient ∙ length-map c.args.q (drop _) in
    let rows = length-map c.args.powers.now (λ (r : Vec ℕ Global). r.items) in
    fits_in _ _ _ _ there c.requires.enough rows

pub values_at_bytes-values-requires-clause-powers : goal.values_at_bytes-values-requires-clause-powers
values_at_bytes-values-requires-clause-powers c = c.requires.powers_are

pub returns : goal.returns
returns c = record {
  power = c.strip_x.result;
  stripped = record { order = c.strip_x.ensures.order; quotient = c.strip_x.ensures.quotient; bytes = c.coefficients_are_bytes.ensures };
  values_are = c.values_at_bytes-values.ensures;
}
