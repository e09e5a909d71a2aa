-- What holds of a port from one moment on holds from before, where the port stayed as it was.
use Rattle.std.proofs.Common.{◌≡◌, ◌∙◌, inl, inr, ℕ, ◌<◌, List, length, take, ap, subst}
use Rattle.port_trait.specs.World.{Cell, World}
use Rattle.port_trait.specs.Moves.{Fails, RoseOnce, counted, gave, named}
use Rattle.port_trait.specs.Whole.{FailsWithin}
use Rattle.port_trait.specs.Files.{Unwritten}

module _ (p : ℕ) (w v u : World) (same : v.at p ≡ w.at p) where
  -- a text was cut short
  pub cut_before : (text : List ℕ) → FailsWithin p text v u → FailsWithin p text w u
  cut_before text h = record {
    n = h.n;
    proper = h.proper;
    cell = h.cell ∙ ap (λ (c : Cell). counted (u.at p).faults (gave (take h.n text) c)) same;
    rose = subst (λ (c : Cell). RoseOnce c.faults (u.at p).faults) same h.rose;
  }

  -- a file can't be written whole
  pub unwritten_before : (name bytes : List ℕ) → Unwritten p name bytes v u → Unwritten p name bytes w u
  unwritten_before name bytes h = record {
    n = h.n;
    proper = h.proper;
    cell = elim h.cell [
      | inl is ↦ inl (is ∙ ap (λ (c : Cell). counted (u.at p).faults c) same)
      | inr is ↦ inr (is ∙ ap (λ (c : Cell). counted (u.at p).faults (gave (take h.n bytes) (named name c))) same)
    ];
    rose = subst (λ (c : Cell). RoseOnce c.faults (u.at p).faults) same h.rose;
  }

-- a file can't be opened by this name
pub unwritten_closed : (p : ℕ) (name text : List ℕ) (w u : World) → 0 < length text → Fails p w u → Unwritten p name text w u
unwritten_closed p name text w u some h = record { n = 0; proper = some; cell = inl h.cell; rose = h.rose }
