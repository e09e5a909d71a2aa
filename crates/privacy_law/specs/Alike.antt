-- What servers are sent for one block, they are sent for another, from other coins.
use Rattle.std.specs.Prelude.{◌≡◌, ◌≢◌, ℕ, ◌-◌, ◌*◌, ◌<◌, ◌≤◌, List, length, slice_index, All}
use Rattle.chor_xor.specs.Bitmap.{bitmap}
use Rattle.shamir_share.specs.Query.{query}
use Rattle.wire_frames.specs.Turns.{piece}
use Rattle.privacy_law.specs.Bijection.{AreCoins}
use Rattle.privacy_law.specs.Partner.{bitmap_coins, partner, partner_xor}

-- coins, and the block that is asked for with them
pub record Asking : Type 0 where
  pub coins : List ℕ
  pub block : ℕ

-- this block, asked for with these coins
abbrev pub asking : List ℕ → ℕ → Asking
asking coins block = record { coins = coins; block = block }

-- coins, and the blocks that are asked for with them, each with a piece of its own
pub record AskingAll : Type 0 where
  pub coins : List ℕ
  pub blocks : List ℕ

-- these blocks, asked for with these coins
abbrev pub asking_all : List ℕ → List ℕ → AskingAll
asking_all coins blocks = record { coins = coins; blocks = blocks }

-- block i of them, with its own piece of so many coins
abbrev pub asking_at : ℕ → ℕ → AskingAll → Asking
asking_at size i all = asking (piece size i all.coins) (slice_index all.blocks i)

-- each member of a coalition is sent the same in both, in queries of degree t for r rows
abbrev pub AreSentAlike : ℕ → ℕ → List ℕ → Asking → Asking → Type 0
AreSentAlike t r coalition one other =
    All (λ a. query one.coins t r one.block a ≡ query other.coins t r other.block a) coalition

-- the same for each of several blocks
abbrev pub AllAreSentAlike : ℕ → ℕ → List ℕ → AskingAll → AskingAll → Type 0
AllAreSentAlike t r coalition one other = (i : ℕ) → i < length other.blocks
    → AreSentAlike t r coalition (asking_at (r * t) i one) (asking_at (r * t) i other)

-- whatever the coins, each member is sent for block b2 from their partner what it is sent for block b from them
abbrev pub PartnerIsAlike : ℕ → ℕ → List ℕ → ℕ → ℕ → Type 0
PartnerIsAlike t r coalition b b2 = (coins : List ℕ) → AreCoins (r * t) coins
    → AreSentAlike t r coalition (asking (partner coins t coalition b b2) b2) (asking coins b)

-- each of n servers but the one is sent the same bitmap in both
abbrev pub OthersAreSentAlike : ℕ → ℕ → ℕ → Asking → Asking → Type 0
OthersAreSentAlike n r left_out one other = (index : ℕ) → 1 ≤ index → index ≤ n → index ≢ left_out
    → bitmap one.coins n r one.block index ≡ bitmap other.coins n r other.block index

-- the same for each of several blocks
abbrev pub AllOthersAreSentAlike : ℕ → ℕ → ℕ → AskingAll → AskingAll → Type 0
AllOthersAreSentAlike n r left_out one other = (i : ℕ) → i < length other.blocks
    → OthersAreSentAlike n r left_out (asking_at (bitmap_coins n r) i one) (asking_at (bitmap_coins n r) i other)

-- whatever the coins, each server but the one is sent for block b2 from their partner the bitmap for block b from them
abbrev pub PartnerXorIsAlike : ℕ → ℕ → ℕ → ℕ → ℕ → Type 0
PartnerXorIsAlike n r left_out b b2 = (coins : List ℕ) → AreCoins (bitmap_coins n r) coins
    → OthersAreSentAlike n r left_out (asking (partner_xor coins n r left_out b b2) b2) (asking coins b)
