-- The partner of the coins of a database in shares, which up to tau servers that hold one each can't
-- read together (Shamir 1979; Goldberg 2007).
use Rattle.std.specs.Prelude.{◌≡◌, ℕ, ◌+◌, ◌*◌, ◌/◌, ◌%◌, List, length, map, slice_index, All}
use Rattle.std.specs.List.{range_with_len}
use Rattle.gf256.specs.Field.{◌⊕◌, ◌⊗◌}
use Rattle.gf256.specs.Polynomial.{coef}
use Rattle.privacy_law.specs.Bijection.{AreCoins, IsBijection}
use Rattle.privacy_law.specs.Hiding.{hiding}
use Rattle.share_bytes.specs.Share.{share}

-- what is added to coin j, which is coefficient `j % tau + 1` of its position: that of g, times the
-- sum of both databases there
unfoldable pub difference : List ℕ → List ℕ → List ℕ → ℕ → ℕ → ℕ
difference g from to tau j =
    coef g (j % tau + 1) ⊗ (slice_index from (j / tau) ⊕ slice_index to (j / tau))

-- the coins from which the coalition holds for `to` the shares that it holds from these for `from`
unfoldable pub partner_db : List ℕ → List ℕ → List ℕ → ℕ → List ℕ → List ℕ
partner_db coins from to tau coalition =
    map (λ j. slice_index coins j ⊕ difference (hiding coalition) from to tau j)
    (range_with_len 0 (length coins))

-- to take the partner maps the coins of a database one to one onto themselves
abbrev pub PartnerIsBijection : List ℕ → List ℕ → ℕ → List ℕ → Type 0
PartnerIsBijection from to tau coalition = IsBijection (length from * tau) (λ coins. partner_db coins from to tau coalition)

-- each member of a coalition holds of a database, from these coins, what it holds of another from other coins
abbrev pub HoldAlike : ℕ → List ℕ → List ℕ → List ℕ → List ℕ → List ℕ → Type 0
HoldAlike tau coalition from coins to changed = All (λ a. share to changed tau a ≡ share from coins tau a) coalition

-- whatever the coins, each member holds of the one database from them what it holds of the other from their partner
abbrev pub PartnerIsAlike : List ℕ → List ℕ → ℕ → List ℕ → Type 0
PartnerIsAlike from to tau coalition = (coins : List ℕ) → AreCoins (length from * tau) coins
    → HoldAlike tau coalition from coins to (partner_db coins from to tau coalition)
