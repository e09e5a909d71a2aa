-- Guests who come in and are attended to, one after the other.
use Rattle.std.proofs.Common.{◌≡◌, ◌∙◌, ℕ, ◌+◌, ◌<◌, ◌≤◌, Bool, inl, inr, cond, refl, sym, ap, subst, arith}
use Rattle.std.specs.Prelude.{nat_le}
use Rattle.std.proofs.lemmas.Bool.{cases_lt, le-leb, lt-leb}
use Rattle.port_trait.specs.World.{Cell, World}
use Rattle.port_trait.specs.Number.{GUEST}
use Rattle.port_trait.specs.Moves.{RoseAtMost, RoseOnce}
use Rattle.port_trait.proofs.Rises.{at_most_once, at_most_still}
use Rattle.serve_core.specs.Service.{Service}
use Rattle.serve_core.specs.Attended.{Attends, AttendsNext}
use Rattle.serve_core.specs.declared.met.Met.{Met}
use Rattle.serve_core.specs.declared.met.Met.TheVariants.{Served, Refused, Gone, GuestFault}
use Rattle.serve_core.proofs.ServingOne.{attended_once}
use Rattle.commands.specs.ServeSteps.{AttendsInTurn}

-- before the first guest
pub turns_none : (service : Service) (w : World) → AttendsInTurn service 0 w w
turns_none service w = record {
  worlds = λ i. w;
  mets = λ i. Gone;
  first = refl;
  last = refl;
  each = λ i l. absurd (omega arith);
  faults = omega arith;
}

-- the same guest, met so, between the same worlds
moved : (service : Service) (m m' : Met) (a a' b b' : World) → m ≡ m' → a ≡ a' → b ≡ b' → AttendsNext service m a b → AttendsNext service m' a' b'
moved service m m' a a' b b' p q r h = subst (λ (x : Met). AttendsNext service x a' b') p (subst (λ (x : World). AttendsNext service m x b') q (subst (λ (x : World). AttendsNext service m a x) r h))

-- one guest more, on which at most one call failed
faults_more : (service : Service) (n : ℕ) (met : Met) (w v u : World)
    → RoseAtMost n (w.at GUEST).faults (v.at GUEST).faults → AttendsNext service met v u
    → RoseAtMost (n + 1) (w.at GUEST).faults (u.at GUEST).faults
faults_more service n met w v u few next = elim (attended_once service met next.mid u next.attends) [
  | inl still ↦ at_most_still n (w.at GUEST).faults (v.at GUEST).faults (u.at GUEST).faults few (still ∙ next.meets.faults)
  | inr once ↦ at_most_once n (w.at GUEST).faults (v.at GUEST).faults (u.at GUEST).faults few (subst (λ (k : ℕ). RoseOnce k (u.at GUEST).faults) next.meets.faults once)
]

-- one guest more
pub turns_more : (service : Service) (n : ℕ) (met : Met) (w v u : World) → AttendsInTurn service n w v → AttendsNext service met v u → AttendsInTurn service (n + 1) w u
turns_more service n met w v u t next = record {
  worlds = worlds;
  mets = mets;
  first = before 0 (omega arith) ∙ t.first;
  last = after (n + 1) (omega arith);
  each = λ i l. elim (cases_lt i n) [
    | inl less ↦ moved service (t.mets i) (mets i) (t.worlds i) (worlds i) (t.worlds (i + 1)) (worlds (i + 1)) (sym (met_before i less)) (sym (before i (omega (arith, less)))) (sym (before (i + 1) (omega (arith, less)))) (t.each i less)
    | inr more ↦
        let last : i ≡ n = omega (arith, l, more) in
        moved service met (mets i) v (worlds i) u (worlds (i + 1))
        (sym (met_after i more))
        (sym (before i (omega (arith, last)) ∙ ap t.worlds last ∙ t.last))
        (sym (after (i + 1) (omega (arith, more)))) next
  ];
  faults = faults_more service n met w v u t.faults next;
}
  where
    -- the worlds of the chain, one more
    worlds : ℕ → World
    worlds i = cond (nat_le i n) (t.worlds i) u

    -- what each guest was met with, one more
    mets : ℕ → Met
    mets i = cond (nat_le (i + 1) n) (t.mets i) met

    -- up to the last they are those of before
    before : (i : ℕ) → i ≤ n → worlds i ≡ t.worlds i
    before i l = ap (λ (b : Bool). cond b (t.worlds i) u) (le-leb i n l)

    -- and behind it the new one
    after : (i : ℕ) → n < i → worlds i ≡ u
    after i l = ap (λ (b : Bool). cond b (t.worlds i) u) (lt-leb i n l)

    -- each guest before was met as before
    met_before : (i : ℕ) → i < n → mets i ≡ t.mets i
    met_before i l = ap (λ (b : Bool). cond b (t.mets i) met) (le-leb (i + 1) n (omega (arith, l)))

    -- and the last one as it was
    met_after : (i : ℕ) → n ≤ i → mets i ≡ met
    met_after i l = ap (λ (b : Bool). cond b (t.mets i) met) (lt-leb (i + 1) n (omega (arith, l)))

-- whatever a guest is met with, Guest is opened by no name
pub attended_unnamed : (service : Service) (met : Met) (w v : World) → Attends service met w v → (v.at GUEST).opened ≡ (w.at GUEST).opened
attended_unnamed service Served w v a = ap (λ (c : Cell). c.opened) a.cell
attended_unnamed service (Refused status) w v a = ap (λ (c : Cell). c.opened) a.cell
attended_unnamed service Gone w v a = ap (λ (c : Cell). c.opened) a.cell
attended_unnamed service GuestFault w v a = ap (λ (c : Cell). c.opened) a.cell
