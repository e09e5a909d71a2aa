-- A coalition is sent the same frames in all fetches of a look-up.
use Rattle.std.proofs.Common.{◌≡◌, ◌≢◌, ℕ, ◌<◌, ◌≤◌, List, [], ◌∷◌, length, get_or, All, refl, ap₂, arith}
use Rattle.wire_frames.specs.declared.scheme.TheConstants.{SHAMIR}
use Rattle.query_rounds.specs.declared.plan.FetchPlan.{FetchPlan}
use Rattle.key_fetches.specs.Rounds.{Round}
use Rattle.key_fetches.specs.Sent.{frames_to}
use Rattle.pir_tool.specs.Privacy.{HaveCoins, partner_rounds}
use Rattle.pir_tool.proofs.SameFrames.{same_in_shamir}

module _ (p : FetchPlan) (scheme : p.scheme ≡ SHAMIR) (coalition : List ℕ) (bytes : All (λ a. a < 256) coalition)
    (nonzero : All (λ a. a ≢ 0) coalition) (few : length coalition ≤ p.t) where
  -- each member is sent the same frames
  pub same_in_each : (others : List ℕ) (rounds : List Round) → length others ≡ length rounds → HaveCoins p rounds
      → (k d : ℕ) → k < length coalition
      → frames_to p (get_or coalition k d) (partner_rounds p coalition others rounds) ≡ frames_to p (get_or coalition k d) rounds
  same_in_each [] [] as_many coins k d l = refl
  same_in_each [] (round ∷ rounds) as_many coins k d l = absurd (omega (arith, as_many))
  same_in_each (other ∷ others) [] as_many coins k d l = absurd (omega (arith, as_many))
  same_in_each (other ∷ others) (round ∷ rounds) as_many coins k d l =
      ap₂ (λ (frame : List ℕ) (frames : List (List ℕ)). frame ∷ frames)
      (same_in_shamir p scheme coalition (round.row ∷ []) (other ∷ []) (omega arith) bytes nonzero few round.coins coins.0 k d l)
      (same_in_each others rounds (omega (arith, as_many)) coins.1 k d l)
