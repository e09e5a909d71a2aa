-- A coalition is sent the same frames in a search for as many other keys.
use Rattle.std.proofs.Common.{◌≡◌, ◌∙◌, ◌≢◌, ℕ, ◌+◌, ◌-◌, ◌*◌, ◌/◌, ◌<◌, ◌≤◌, min, List, [], ◌∷◌, length, map, get_or, All, refl, sym, ap, ap₂, subst}
use Rattle.std.specs.List.{AllZip, range_with_len}
use Rattle.std.proofs.lemmas.List.{length-map}
use Rattle.wire_frames.specs.declared.scheme.TheConstants.{SHAMIR}
use Rattle.query_rounds.specs.declared.plan.FetchPlan.{FetchPlan}
use Rattle.query_rounds.specs.Plan.{need}
use Rattle.privacy_law.specs.Bijection.{AreCoins}
use Rattle.list_finds.specs.Known.{row_in}
use Rattle.list_finds.specs.Queries.{Query}
use Rattle.list_finds.specs.Sent.{frames_to}
use Rattle.list_finds.specs.Wanted.{Wanted, keys_each, keys_of, queries_for, rows_of}
use Rattle.list_finds.proofs.Pieces.{length-piece}
use Rattle.pir_tool.specs.Privacy.{PartnerIsBijection, partner_coins}
use Rattle.pir_tool.specs.SearchPrivacy.{AskFor, LooksTheSame, partner_queries, rows_asked}
use Rattle.pir_tool.proofs.SameFrames.{bijection_in_shamir, same_in_shamir}

-- as many
abbrev AsMany : List ℕ → List ℕ → Type 0
AsMany rows others = length others ≡ length rows

-- each query of two searches for as many keys has as many rows
module _ (w other : Wanted) (plans : other.plan ≡ w.plan) (keys : length other.keys ≡ length w.keys) where
  rows_in_query : (i : ℕ) → length (rows_of other (keys_of other i)) ≡ length (rows_of w (keys_of w i))
  rows_in_query i =
      length-map (keys_of other i) (row_in other.list other.plan.r)
      ∙ length-piece other.keys (keys_each other.plan.s) i
      ∙ ap₂ (λ (p : FetchPlan) (n : ℕ). min (keys_each p.s) (n - i * keys_each p.s)) plans keys
      ∙ sym (length-piece w.keys (keys_each w.plan.s) i)
      ∙ sym (length-map (keys_of w i) (row_in w.list w.plan.r))

  as_many_each : (is : List ℕ) → AllZip AsMany (map (λ i. rows_of w (keys_of w i)) is) (map (λ i. rows_of other (keys_of other i)) is)
  as_many_each [] = tt
  as_many_each (i ∷ is) = (rows_in_query i, as_many_each is)

  pub as_many_rows : AllZip AsMany (rows_asked w) (rows_asked other)
  as_many_rows =
      subst (λ (n : ℕ). AllZip AsMany (rows_asked w) (map (λ i. rows_of other (keys_of other i)) (range_with_len 0 n)))
      (sym (ap₂ (λ (p : FetchPlan) (n : ℕ). (n + (keys_each p.s - 1)) / keys_each p.s) plans keys))
      (as_many_each (range_with_len 0 (queries_for w)))

module _ (p : FetchPlan) (scheme : p.scheme ≡ SHAMIR) (coalition : List ℕ) (bytes : All (λ a. a < 256) coalition)
    (nonzero : All (λ a. a ≢ 0) coalition) (few : length coalition ≤ p.t) where
  -- the other queries have coins, each member is sent the same frames, and bijections give the coins
  same_in_queries : (rows others : List (List ℕ)) (queries : List Query) → AllZip AsMany rows others → AskFor p rows queries
      → AskFor p others (partner_queries p coalition others queries)
      × ((k d : ℕ) → k < length coalition
      → frames_to p (get_or coalition k d) (partner_queries p coalition others queries) ≡ frames_to p (get_or coalition k d) queries)
      × AllZip (PartnerIsBijection p coalition) rows others
  same_in_queries [] [] [] sizes ask = (tt, (λ k d l. refl), tt)
  same_in_queries [] [] (q ∷ queries) sizes ask = absurd ask
  same_in_queries [] (b ∷ others) queries sizes ask = absurd sizes
  same_in_queries (a ∷ rows) [] queries sizes ask = absurd sizes
  same_in_queries (a ∷ rows) (b ∷ others) [] sizes ask = absurd ask
  same_in_queries (a ∷ rows) (b ∷ others) (q ∷ queries) sizes ask =
      let rest = same_in_queries rows others queries sizes.1 ask.2 in
      let as_many : length b ≡ length q.rows = sizes.0 ∙ ap length (sym ask.0) in
      let coins : AreCoins (need p (length q.rows)) q.coins = subst (λ (l : List ℕ). AreCoins (need p (length l)) q.coins) (sym ask.0) ask.1 in
      let one = bijection_in_shamir p scheme coalition q.rows b as_many bytes nonzero in (
        (
          refl,
          subst (λ (n : ℕ). AreCoins (need p n) (partner_coins p coalition q.rows b q.coins)) (sym as_many) (one.into q.coins coins),
          rest.0,
        ),
        (λ k d l. ap₂ (λ (frame : List ℕ) (frames : List (List ℕ)). frame ∷ frames)
            (same_in_shamir p scheme coalition q.rows b as_many bytes nonzero few q.coins coins k d l) (rest.1 k d l)),
        (bijection_in_shamir p scheme coalition a b sizes.0 bytes nonzero, rest.2),
      )

  -- so it is in a search for as many other keys
  pub search_looks_the_same : (w other : Wanted) (queries : List Query) → w.plan ≡ p → other.plan ≡ p → length other.keys ≡ length w.keys
      → AskFor p (rows_asked w) queries → LooksTheSame p coalition (rows_asked w) (rows_asked other) queries
  search_looks_the_same w other queries mine yours keys ask =
      let all = same_in_queries (rows_asked w) (rows_asked other) queries (as_many_rows w other (yours ∙ sym mine) keys) ask in
      record { asks = all.0; bijections = all.2; same = all.1 }
