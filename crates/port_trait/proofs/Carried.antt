-- What a call did to one port, carried over what others did before or after it and left that port as it was.
use Rattle.std.proofs.Common.{◌≡◌, ℕ, List, ◌≤◌, take, length, ap, sym, subst, ◌∙◌}
use Rattle.std.specs.Prelude.{IfSome}
use Rattle.port_trait.specs.World.{Cell, World}
use Rattle.port_trait.specs.Moves.{RoseOnce, took, gave, counted, Came, Hands, Fails}
use Rattle.port_trait.specs.Whole.{Ends, FailsAfter, FailsWithin, IsPrefix, Reads}

-- the others came after
module _ (p : ℕ) (w v u : World) (still : u.at p ≡ v.at p) where
  pub hands_after : (n : ℕ) (before after : List ℕ) → Hands p n before after w v → Hands p n before after w u
  hands_after n before after h = record { fits = h.fits; cell = still ∙ h.cell; told = h.told }

  pub reads_after : (read : List ℕ) → Reads p read w v → Reads p read w u
  reads_after read h = record { cell = still ∙ h.cell; told = h.told }

  pub ends_after : (n : ℕ) (before after : List ℕ) → Ends p n before after w v → Ends p n before after w u
  ends_after n before after h = record { fewer = h.fewer; hands = hands_after n before after h.hands; all = h.all }

  pub fails_after : Fails p w v → Fails p w u
  fails_after h = record {
    cell = still ∙ h.cell ∙ ap (λ (c : Cell). counted c.faults (w.at p)) (sym still);
    rose = subst (λ (c : Cell). RoseOnce (w.at p).faults c.faults) (sym still) h.rose;
  }

  pub fails_reading_after : FailsAfter p w v → FailsAfter p w u
  fails_reading_after h = record {
    n = h.n;
    cell = still ∙ h.cell ∙ ap (λ (c : Cell). counted c.faults (took h.n (w.at p))) (sym still);
    held = h.held;
    rose = subst (λ (c : Cell). RoseOnce (w.at p).faults c.faults) (sym still) h.rose;
  }

  pub fails_writing_after : (piece : List ℕ) → FailsWithin p piece w v → FailsWithin p piece w u
  fails_writing_after piece h = record {
    n = h.n;
    proper = h.proper;
    cell = still ∙ h.cell ∙ ap (λ (c : Cell). counted c.faults (gave (take h.n piece) (w.at p))) (sym still);
    rose = subst (λ (c : Cell). RoseOnce (w.at p).faults c.faults) (sym still) h.rose;
  }

-- the others came before
module _ (p : ℕ) (w v u : World) (still : v.at p ≡ w.at p) where
  pub hands_before : (n : ℕ) (before after : List ℕ) → Hands p n before after v u → Hands p n before after w u
  hands_before n before after h = record {
    fits = h.fits;
    cell = h.cell ∙ ap (took n) still;
    told = subst (λ (c : Cell). IfSome c.holds (Came n before after)) still h.told;
  }

  pub reads_before : (read : List ℕ) → Reads p read v u → Reads p read w u
  reads_before read h = record {
    cell = h.cell ∙ ap (took (length read)) still;
    told = subst (λ (c : Cell). IfSome c.holds (IsPrefix read)) still h.told;
  }

  pub ends_before : (n : ℕ) (before after : List ℕ) → Ends p n before after v u → Ends p n before after w u
  ends_before n before after h = record {
    fewer = h.fewer;
    hands = hands_before n before after h.hands;
    all = subst (λ (c : Cell). IfSome c.holds (λ l. length l ≡ n)) still h.all;
  }

  pub fails_before : Fails p v u → Fails p w u
  fails_before h = record {
    cell = h.cell ∙ ap (counted (u.at p).faults) still;
    rose = subst (λ (c : Cell). RoseOnce c.faults (u.at p).faults) still h.rose;
  }

  pub fails_reading_before : FailsAfter p v u → FailsAfter p w u
  fails_reading_before h = record {
    n = h.n;
    cell = h.cell ∙ ap (λ (c : Cell). counted (u.at p).faults (took h.n c)) still;
    held = subst (λ (c : Cell). IfSome c.holds (λ l. h.n ≤ length l)) still h.held;
    rose = subst (λ (c : Cell). RoseOnce c.faults (u.at p).faults) still h.rose;
  }

  pub fails_writing_before : (piece : List ℕ) → FailsWithin p piece v u → FailsWithin p piece w u
  fails_writing_before piece h = record {
    n = h.n;
    proper = h.proper;
    cell = h.cell ∙ ap (λ (c : Cell). counted (u.at p).faults (gave (take h.n piece) c)) still;
    rose = subst (λ (c : Cell). RoseOnce c.faults (u.at p).faults) still h.rose;
  }
