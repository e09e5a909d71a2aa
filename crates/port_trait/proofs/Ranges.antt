-- Calls on the ports base, base + 1, .., one after the other, and calls on other ports before and after.
use Rattle.std.proofs.Common.{◌≡◌, ◌⊎◌, inl, inr, ℕ, ◌+◌, ◌<◌, ◌≤◌, refl, sym, ◌∙◌, subst, arith}
use Rattle.std.proofs.lemmas.Bool.{cases_eq}
use Rattle.port_trait.specs.declared.port.TheConstants.{PORT_COUNT}
use Rattle.port_trait.specs.World.{Cell, World}
use Rattle.port_trait.specs.Moves.{Touches}
use Rattle.port_trait.specs.Each.{Each, TouchesRange}

-- before the first port nothing is touched
pub range_none : (base : ℕ) (w : World) → TouchesRange base 0 w w
range_none base w = record { others = λ q l out. refl; crowd = refl; started = refl }

-- one port more
pub range_more : (base n : ℕ) (w v u : World) → TouchesRange base n w v → Touches (base + n) v u
    → TouchesRange base (n + 1) w u
range_more base n w v u a b = record {
  others = λ q l out. b.others q l (λ e. out (omega (arith, e)) (omega (arith, e))) ∙ a.others q l (λ lo hi. out lo (omega arith));
  crowd = b.crowd ∙ a.crowd;
  started = b.started ∙ a.started;
}

-- before the first port there is nothing to say
pub each_none : (R : ℕ → Cell → Cell → Type 0) (base : ℕ) (w v : World) → Each R base 0 w v
each_none R base w v = record { each = λ i l. absurd (omega arith) }

-- what holds of each port by R holds by S, if S says no more
pub each_as : (R S : ℕ → Cell → Cell → Type 0) (base n : ℕ) (w v : World)
    → ((i : ℕ) → i < n → (c d : Cell) → R i c d → S i c d) → Each R base n w v → Each S base n w v
each_as R S base n w v from e = record { each = λ i l. from i l (w.at (base + i)) (v.at (base + i)) (e.each i l) }

-- one port more
pub each_more : (R : ℕ → Cell → Cell → Type 0) (base n : ℕ) (w v u : World) → base + n < PORT_COUNT
    → Each R base n w v → TouchesRange base n w v → Touches (base + n) v u
    → R n (v.at (base + n)) (u.at (base + n)) → Each R base (n + 1) w u
each_more R base n w v u fits e range touch last = record {
  each = λ i l. elim (cases_eq i n) [
    | inl is ↦
        let here : R n (w.at (base + n)) (u.at (base + n)) = subst (λ (c : Cell). R n c (u.at (base + n))) (range.others (base + n) fits (λ lo hi. omega (arith, hi))) last in
        subst (λ (k : ℕ). R k (w.at (base + k)) (u.at (base + k))) (sym is) here
    | inr ne ↦
        let below : i < n = omega (arith, l, ne) in
        subst (λ (d : Cell). R i (w.at (base + i)) d) (sym (touch.others (base + i) (omega arith) (λ q. ne (omega (arith, q))))) (e.each i below)
  ];
}

-- a port behind or before the range stays
pub range_still : (base n q : ℕ) (w v : World) → TouchesRange base n w v → q < PORT_COUNT
    → (q < base) ⊎ (base + n ≤ q) → v.at q ≡ w.at q
range_still base n q w v range l out = range.others q l (λ lo hi. elim out [ inl a ↦ omega (arith, a) | inr a ↦ omega (arith, a) ])

-- what was done to each stays, whatever is done to another port after it
pub each_after : (R : ℕ → Cell → Cell → Type 0) (base n p : ℕ) (w v u : World) → base + n ≤ PORT_COUNT
    → (p < base) ⊎ (base + n ≤ p) → Each R base n w v → Touches p v u → Each R base n w u
each_after R base n p w v u fits out e touch = record {
  each = λ i l. subst (λ (d : Cell). R i (w.at (base + i)) d) (sym (touch.others (base + i) (omega arith) (λ q. elim out [ inl a ↦ omega (arith, a, q) | inr a ↦ omega (arith, a, q) ]))) (e.each i l);
}

-- what is done to each counts from before, whatever was done to another port
pub each_before : (R : ℕ → Cell → Cell → Type 0) (base n p : ℕ) (w v u : World) → base + n ≤ PORT_COUNT
    → (p < base) ⊎ (base + n ≤ p) → Touches p w v → Each R base n v u → Each R base n w u
each_before R base n p w v u fits out touch e = record {
  each = λ i l. subst (λ (c : Cell). R i c (u.at (base + i))) (touch.others (base + i) (omega arith) (λ q. elim out [ inl a ↦ omega (arith, a, q) | inr a ↦ omega (arith, a, q) ])) (e.each i l);
}

-- what was done to each stays, and counts from before, where neither what came before nor what came after touched it
pub each_within : (R : ℕ → Cell → Cell → Type 0) (base n : ℕ) (w v u z : World) → ((i : ℕ) → i < n → v.at (base + i) ≡ w.at (base + i)) → ((i : ℕ) → i < n → z.at (base + i) ≡ u.at (base + i))
    → Each R base n v u → Each R base n w z
each_within R base n w v u z before after e = record {
  each = λ i l. subst (λ (c : Cell). R i c (z.at (base + i))) (before i l) (subst (λ (d : Cell). R i (v.at (base + i)) d) (sym (after i l)) (e.each i l));
}
