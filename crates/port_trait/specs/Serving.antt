-- A server's guests, one after the other.
use Rattle.std.specs.Prelude.{ℕ, ◌+◌, ◌<◌, ◌≤◌, ◌≡◌, List, [], ◌∷◌, ◌++◌, length, drop, get_or, Some}
use Rattle.port_trait.specs.World.{Cell, World, answered}
use Rattle.port_trait.specs.Number.{GUEST}

-- a guest with these bytes was given some, by F: of its bytes, of what it was given, and of the count of Guest as it
-- came in and at its end
pub record Gives (F : List ℕ → List ℕ → ℕ → ℕ → Type 0) (guest : List ℕ) (old new : Cell) : Type 0 where
  pub out : List ℕ
  pub accepted : new.accepted ≡ Some out
  pub by : F guest out old.faults new.faults

-- the guest that is in, and was given nothing yet, is served by F, where its bytes are told
pub record ServesOne (F : List ℕ → List ℕ → ℕ → ℕ → Type 0) (old new : Cell) : Type 0 where
  pub told : (guest : List ℕ) → old.holds ≡ Some guest → old.accepted ≡ Some [] → Gives F guest old new

-- of the guests gs the first j were served, each by F, after guests that were given other answers and came in at
-- other counts. A guest ends at the count at which the next came in, and the last at the present one
pub record Serving (F : List ℕ → List ℕ → ℕ → ℕ → Type 0)
    (gs others : List (List ℕ)) (earlier : List ℕ) (j : ℕ) (w : World) : Type 0 where
  pub outs : List (List ℕ)
  pub counts : List ℕ
  pub present : List ℕ
  pub there : j ≤ length gs
  pub guests : w.crowd.guests ≡ Some (drop j gs)
  pub answers : answered w ≡ Some (others ++ outs)
  pub since : w.crowd.since ≡ Some (earlier ++ counts)
  pub accepted : (w.at GUEST).accepted ≡ Some present
  pub outs_size : length outs ≡ j
  pub counts_size : length counts ≡ j
  pub each : (i : ℕ) → i < j
      → F (get_or gs i []) (get_or outs i []) (get_or counts i 0) (get_or (counts ++ (w.at GUEST).faults ∷ []) (i + 1) 0)

-- j guests were served, each by F, where the guests are told
pub record Served (F : List ℕ → List ℕ → ℕ → ℕ → Type 0) (j : ℕ) (old new : World) : Type 0 where
  pub told : (gs others : List (List ℕ)) (earlier before : List ℕ)
      → old.crowd.guests ≡ Some gs → answered old ≡ Some others
      → old.crowd.since ≡ Some earlier → (old.at GUEST).accepted ≡ Some before → Serving F gs others earlier j new
