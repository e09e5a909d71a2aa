-- A text that is given in pieces, one after the other.
use Rattle.std.proofs.Common.{◌≡◌, ◌∙◌, ℕ, List, [], ◌++◌, ap, refl}
use Rattle.std.proofs.lemmas.List.{append-nil}
use Rattle.std.specs.Prelude.{Option, Some, None, Result, Ok, Err, OnOk, OnErr}
use Rattle.std.specs.Option.{option_map}
use Rattle.port_trait.specs.World.{Cell, World}
use Rattle.port_trait.specs.Moves.{gave}
use Rattle.port_trait.specs.Whole.{FailsWithin}
use Rattle.port_trait.specs.Written.{Written}
use Rattle.port_trait.specs.declared.port.Failed.{Failed}
use Rattle.port_trait.proofs.Cells.{gave-gave, fails_first, fails_next}

-- nothing is given
pub gave_none : (c : Cell) → gave [] c ≡ c
gave_none c = ap (λ (o : Option (List ℕ)). record c { accepted = o }) (same c.accepted)
  where
    same : (o : Option (List ℕ)) → option_map (λ a. a ++ []) o ≡ o
    same None = refl
    same (Some a) = ap (λ (l : List ℕ). Some l) (append-nil a)

-- a first piece was taken whole, and then the rest, or a prefix of it
pub written_next : (p : ℕ) (a b : List ℕ) (r : Result (Unit {0}) Failed) (w v u : World) → v.at p ≡ gave a (w.at p) → Written p b r v u → Written p (a ++ b) r w u
written_next p a b (Ok x) w v u is h = h ∙ ap (gave b) is ∙ gave-gave a b (w.at p)
written_next p a b (Err e) w v u is h = fails_next p a b w v u is h

-- pieces were taken whole, and the next was cut short, so the whole is
pub written_cut : (p : ℕ) (a b c : List ℕ) (w v u : World) → v.at p ≡ gave a (w.at p) → FailsWithin p b v u → FailsWithin p (a ++ (b ++ c)) w u
written_cut p a b c w v u is h = fails_next p a (b ++ c) w v u is (fails_first p b c v u h)

-- what a whole write says in two clauses
pub written_both : (p : ℕ) (text : List ℕ) (r : Result (Unit {0}) Failed) (w u : World) → OnOk r (u.at p ≡ gave text (w.at p)) → OnErr r (FailsWithin p text w u) → Written p text r w u
written_both p text (Ok x) w u ok failed = ok
written_both p text (Err e) w u ok failed = failed
