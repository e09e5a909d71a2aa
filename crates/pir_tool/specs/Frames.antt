-- What the frames of honest servers are worth.
use Rattle.std.specs.Prelude.{ℕ, List}
use Rattle.wire_frames.specs.Session.{Transcript}
use Rattle.fetch_client.specs.Held.{held_as}
use Rattle.fetch_client.specs.Honest.{HonestRecords, IsHonest}

-- where enough records are such frames, enough answers are honest, whatever is held
abbrev pub FramesAreUsable : Transcript → ℕ → ℕ → List ℕ → List ℕ → Type 0
FramesAreUsable session t tau coins blocks = (matrix : List (List ℕ)) (share_coins : List ℕ)
    → HonestRecords session t (held_as tau matrix share_coins) coins blocks
    → IsHonest session t (held_as tau matrix share_coins) coins blocks
