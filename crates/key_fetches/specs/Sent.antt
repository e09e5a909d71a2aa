-- What each server is sent in a look-up.
use Rattle.std.specs.Prelude.{◌≡◌, ℕ, ◌+◌, ◌++◌, List, [], ◌∷◌, length, take, map, ⊤}
use Rattle.std.specs.List.{concat}
use Rattle.std.specs.Option.{option_map}
use Rattle.port_trait.specs.World.{Cell, World}
use Rattle.port_trait.specs.Number.{link}
use Rattle.port_trait.specs.Moves.{Rose, RoseAtMost}
use Rattle.port_trait.specs.Each.{Each}
use Rattle.query_rounds.specs.declared.plan.FetchPlan.{FetchPlan}
use Rattle.key_fetches.specs.Rounds.{Round, frame_in}

-- the frame of each fetch to server i
abbrev pub frames_to : FetchPlan → ℕ → List Round → List (List ℕ)
frames_to p i rounds = map (frame_in p i) rounds

-- of each frame a prefix
abbrev pub ArePrefixes : List (List ℕ) → List (List ℕ) → Type 0
ArePrefixes [] [] = ⊤
ArePrefixes [] (frame ∷ frames) = ⊥
ArePrefixes (prefix ∷ prefixes) [] = ⊥
ArePrefixes (prefix ∷ prefixes) (frame ∷ frames) = (prefix ≡ take (length prefix) frame) × ArePrefixes prefixes frames

-- a link took of the frame of each fetch in turn a prefix, and its count rose by no more than there were fetches; and where it
-- stayed, the link took exactly these frames
pub record TakesFrames (frames : List (List ℕ)) (old new : Cell) : Type 0 where
  pub prefixes : List (List ℕ)
  pub are : ArePrefixes prefixes frames
  pub most : RoseAtMost (length frames) old.faults new.faults
  pub took : new.accepted ≡ option_map (λ taken. taken ++ concat prefixes) old.accepted
  pub whole : (Rose old.faults new.faults → ⊥)
      → new.accepted ≡ option_map (λ taken. taken ++ concat frames) old.accepted

-- each link took the frames of these fetches
abbrev pub TakeFrames : FetchPlan → List Round → World → World → Type 0
TakeFrames p rounds old new = Each (λ i. TakesFrames (frames_to p (i + 1) rounds)) (link 1) p.n old new
