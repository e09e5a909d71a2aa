-- Bijections of the coins: as many coins are mapped into a set of coins as it has members.
use Rattle.std.specs.Prelude.{◌≡◌, ℕ, ◌<◌, List, length, All}

-- n random bytes
pub record AreCoins (n : ℕ) (coins : List ℕ) : Type 0 where
  pub size : length coins ≡ n
  pub bytes : All (λ c. c < 256) coins

-- f maps the lists of n bytes one to one onto themselves
pub record IsBijection (n : ℕ) (f : List ℕ → List ℕ) : Type 0 where
  pub inverse : List ℕ → List ℕ
  pub into : (coins : List ℕ) → AreCoins n coins → AreCoins n (f coins)
  pub back : (coins : List ℕ) → AreCoins n coins → AreCoins n (inverse coins)
  pub left : (coins : List ℕ) → AreCoins n coins → inverse (f coins) ≡ coins
  pub right : (coins : List ℕ) → AreCoins n coins → f (inverse coins) ≡ coins
