-- What a coalition of servers is sent for some blocks, it is sent for any others, from coins that a bijection gives: in
-- Shamir's sharing (Goldberg 2007), and in the XOR scheme (Chor, Goldreich, Kushilevitz and Sudan 1995).
use Rattle.std.specs.Prelude.{◌≡◌, ◌≢◌, ℕ, ◌≤◌, List, [], ◌∷◌, length, ◌++◌, take, drop, All, ⊤}
use Rattle.query_rounds.specs.declared.coins.TheConstants.{NUMBER_LEN}
use Rattle.query_rounds.specs.declared.plan.FetchPlan.{FetchPlan}
use Rattle.query_rounds.specs.Plan.{need}
use Rattle.query_rounds.specs.Sent.{sent}
use Rattle.key_fetches.specs.Rounds.{Round}
use Rattle.key_fetches.specs.Sent.{frames_to}
use Rattle.privacy_law.specs.Bijection.{AreCoins, IsBijection}
use Rattle.privacy_law.specs.Partner.{partner_list, partner_xor_list}

-- the coins that show the coalition the same for as many other blocks: the number of the session stays, and the coins of the
-- rows are those of the partner
unfoldable pub partner_coins : FetchPlan → List ℕ → List ℕ → List ℕ → List ℕ → List ℕ
partner_coins p coalition blocks others coins =
    take NUMBER_LEN coins ++ partner_list (drop NUMBER_LEN coins) p.t p.r coalition blocks others

-- to take them maps the coins of a fetch one to one onto themselves
abbrev pub PartnerIsBijection : FetchPlan → List ℕ → List ℕ → List ℕ → Type 0
PartnerIsBijection p coalition blocks others =
    IsBijection (need p (length blocks)) (λ coins. partner_coins p coalition blocks others coins)

-- each member is sent the same frame, session number and all
abbrev pub IsSentTheSame : FetchPlan → List ℕ → List ℕ → List ℕ → Type 0
IsSentTheSame p coalition blocks others = (coins : List ℕ) → AreCoins (need p (length blocks)) coins
    → All (λ i. sent p others (partner_coins p coalition blocks others coins) i ≡ sent p blocks coins i) coalition

-- in the XOR scheme, the coins that show the same for as many other blocks to all servers but one: the number of the session
-- stays, and the coins of the bitmaps are those of the partner
unfoldable pub partner_coins_xor : FetchPlan → ℕ → List ℕ → List ℕ → List ℕ → List ℕ
partner_coins_xor p left_out blocks others coins =
    take NUMBER_LEN coins ++ partner_xor_list (drop NUMBER_LEN coins) p.n p.r left_out blocks others

-- to take them maps the coins of a fetch one to one onto themselves
abbrev pub PartnerXorIsBijection : FetchPlan → ℕ → List ℕ → List ℕ → Type 0
PartnerXorIsBijection p left_out blocks others =
    IsBijection (need p (length blocks)) (λ coins. partner_coins_xor p left_out blocks others coins)

-- each server but the one is sent the same frame, session number and all
abbrev pub OthersAreSentTheSame : FetchPlan → ℕ → List ℕ → List ℕ → Type 0
OthersAreSentTheSame p left_out blocks others = (coins : List ℕ) → AreCoins (need p (length blocks)) coins
    → (i : ℕ) → 1 ≤ i → i ≤ p.n → i ≢ left_out
    → sent p others (partner_coins_xor p left_out blocks others coins) i ≡ sent p blocks coins i

-- the fetches of a look-up for other rows, each with the coins that show the coalition the same
abbrev pub partner_rounds : FetchPlan → List ℕ → List ℕ → List Round → List Round
partner_rounds p coalition [] rounds = []
partner_rounds p coalition (other ∷ others) [] = []
partner_rounds p coalition (other ∷ others) (round ∷ rounds) =
    record {
      row = other;
      coins = partner_coins p coalition (round.row ∷ []) (other ∷ []) round.coins;
      session = round.session;
    } ∷ partner_rounds p coalition others rounds

-- each fetch has as many coins as one needs
abbrev pub HaveCoins : FetchPlan → List Round → Type 0
HaveCoins p [] = ⊤
HaveCoins p (round ∷ rounds) = AreCoins (need p 1) round.coins × HaveCoins p rounds

-- each member is sent the same frames in all of them
abbrev pub LookUpLooksTheSame : FetchPlan → List ℕ → List ℕ → Type 0
LookUpLooksTheSame p coalition others = (rounds : List Round) → length others ≡ length rounds → HaveCoins p rounds
    → All (λ i. frames_to p i (partner_rounds p coalition others rounds) ≡ frames_to p i rounds) coalition
