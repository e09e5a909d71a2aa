-- What a verdict asks of answers.
use Rattle.std.specs.Prelude.{◌≡◌, ◌≢◌, ℕ, ◌*◌, ◌<◌, ◌≤◌, List, length, All}
use Rattle.std.specs.List.Sorted.{IsStrictlyIncreasing}
use Rattle.quantity_limits.specs.declared.TheConstants.{MOST_SERVERS}

-- the answers with these indices, whose payloads of s bytes stand one after another, can be judged
pub record CanDecide (indices bytes : List ℕ) (t h s : ℕ) : Type 0 where
  pub ascending : IsStrictlyIncreasing indices
  pub nonzero : All (λ a. a ≢ 0) indices
  pub few : length indices ≤ MOST_SERVERS
  pub agreement : (1 ≤ t) × (t < h)
  pub width : 1 ≤ s
  pub fit : length bytes ≡ length indices * s
