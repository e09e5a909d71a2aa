-- The listed blocks, written where the caller has room for them.
use Rattle.std.specs.Prelude.{ℕ, ◌≡◌, ◌<◌, ◌≤◌, ◌++◌, List, length, drop, flat_map, Result, Ok, Err}
use Rattle.client_calls.specs.declared.refusal.Refusal.{Refusal}
use Rattle.client_calls.specs.declared.refusal.Refusal.TheVariants.{Plan, Blocks, Index, Coins, Answers, Room, Memory}

-- blocks one behind another
abbrev pub joined : List (List ℕ) → List ℕ
joined blocks = flat_map (λ b. b) blocks

-- why they aren't written: there is less room, or no memory holds so many bytes
abbrev pub RefusesListing : List (List ℕ) → List ℕ → Refusal → Type 0
RefusesListing blocks room (Room wanted) = (wanted ≡ length (joined blocks)) × (length room < wanted)
RefusesListing blocks room Memory = Unit {0}
RefusesListing blocks room Plan = ⊥
RefusesListing blocks room Blocks = ⊥
RefusesListing blocks room Index = ⊥
RefusesListing blocks room Coins = ⊥
RefusesListing blocks room Answers = ⊥

-- they are written at the front of the room, and their length is told; what is refused leaves the room as it was
abbrev pub WritesListing : List (List ℕ) → List ℕ → List ℕ → Result ℕ Refusal → Type 0
WritesListing blocks old new (Ok used) =
    (used ≡ length (joined blocks)) × (used ≤ length old) × (new ≡ joined blocks ++ drop used old)
WritesListing blocks old new (Err refusal) = RefusesListing blocks old refusal × (new ≡ old)
