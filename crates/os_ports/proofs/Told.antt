-- What a call does to what is told, where that is the counts alone: by what `OsPorts::told` promises of them.
use Rattle.std.proofs.Common.{ℕ, ◌≡◌, ◌≢◌, ◌+◌, ◌-◌, ◌^◌, ◌≤◌, min, List, length, take, slice_index, Result, Ok, Err, IfOk, OnOk, OnErr, None, refl, ap, subst, arith}
use Rattle.std.proofs.lemmas.Result.{IfOk-weaker, on_ok_weaker, on_err_weaker}
use Rattle.port_trait.specs.World.{Cell}
use Rattle.port_trait.specs.Moves.{Touches, Fails, Hands, gave, named}
use Rattle.port_trait.specs.Guests.{Meets}
use Rattle.port_trait.specs.Children.{Starts}
use Rattle.os_ports.specs.Counted.{counts_alone}

-- a port whose count alone is told
abbrev counted_alone : ℕ → Cell
counted_alone n = record { opened = None; holds = None; accepted = None; faults = n }

-- the same counts tell the same of a port
stays : (old new : List ℕ) (q : ℕ) → new ≡ old → counted_alone (slice_index new q) ≡ counted_alone (slice_index old q)
stays old new q same = ap (λ (counts : List ℕ). counted_alone (slice_index counts q)) same

module _ {T E : Type 0} (r : Result T E) (p : ℕ) (old new : List ℕ) where
  -- no other port is touched
  pub touches : OnOk r (new ≡ old) → OnErr r ((q : ℕ) → q ≢ p → slice_index new q ≡ slice_index old q) → Touches p (counts_alone old) (counts_alone new)
  touches same others = record { others = λ q _ apart. ap counted_alone (each r q apart same others); crowd = refl; started = refl }
    where
      each : (r : Result T E) (q : ℕ) → q ≢ p → OnOk r (new ≡ old) → OnErr r ((q : ℕ) → q ≢ p → slice_index new q ≡ slice_index old q) → slice_index new q ≡ slice_index old q
      each (Ok x) q apart same others = ap (λ (counts : List ℕ). slice_index counts q) same
      each (Err e) q apart same others = others q apart

  -- the same of a call that failed
  pub touches_failed : OnErr r ((q : ℕ) → q ≢ p → slice_index new q ≡ slice_index old q) → OnErr r (Touches p (counts_alone old) (counts_alone new))
  touches_failed = on_err_weaker r (λ others. record { others = λ q _ apart. ap counted_alone (others q apart); crowd = refl; started = refl })

  -- a call that failed is counted
  pub fails : OnErr r (slice_index new p ≡ min (slice_index old p + 1) (2 ^ 64 - 1)) → OnErr r (Fails p (counts_alone old) (counts_alone new))
  fails = on_err_weaker r (λ rose. record { cell = refl; rose = rose })

module _ {T E : Type 0} (r : Result T E) (old new : List ℕ) (same : OnOk r (new ≡ old)) where
  pub opens : (p : ℕ) (name : List ℕ) → OnOk r ((counts_alone new).at p ≡ named name ((counts_alone old).at p))
  opens p name = on_ok_weaker r (stays old new p) same

  pub meets : OnOk r (Meets (counts_alone old) (counts_alone new))
  meets = on_ok_weaker r (λ e. record {
    first = tt;
    guests = refl;
    since = refl;
    gone = refl;
    links = refl;
    accepted = refl;
    opened = refl;
    faults = ap (λ (counts : List ℕ). slice_index counts 6) e;
    others = λ q _ _. stays old new q e;
    started = refl;
  }) same

  pub starts : (words : List (List ℕ)) → OnOk r (Starts words (counts_alone old) (counts_alone new))
  starts words = on_ok_weaker r (λ e. record { started = refl; ports = λ q _. stays old new q e; crowd = refl }) same

module _ {E F : Type 0} (moved : Result ℕ E) (r : Result ℕ F) (is : IfOk r (λ n. moved ≡ Ok n)) where
  -- what holds of what was moved holds of what is handed on
  pub handed_on : (P : ℕ → Type 0) → IfOk moved P → IfOk r P
  handed_on P holds = IfOk-weaker r _ P (λ n e. subst (λ m. IfOk m P) e holds) is

module _ {E : Type 0} (r : Result ℕ E) (p : ℕ) (old new : List ℕ) (same : OnOk r (new ≡ old)) where
  pub gives : (piece : List ℕ) → IfOk r (λ n. (counts_alone new).at p ≡ gave (take n piece) ((counts_alone old).at p))
  gives piece = IfOk-weaker r _ _ (λ n e. stays old new p e) same

  pub hands : (before after : List ℕ) → length after ≡ length before → IfOk r (λ n. n ≤ length after)
      → IfOk r (λ n. Hands p n before after (counts_alone old) (counts_alone new))
  hands before after long fits = both r same fits
    where
      both : (r : Result ℕ E) → OnOk r (new ≡ old) → IfOk r (λ n. n ≤ length after) → IfOk r (λ n. Hands p n before after (counts_alone old) (counts_alone new))
      both (Ok n) e few = record { fits = omega (arith, few, long); cell = stays old new p e; told = tt }
      both (Err e) same fits = tt
