-- The partner of coins: from it a coalition is sent for one block what it is sent from the coins
-- for another.
use Rattle.std.specs.Prelude.{ℕ, ◌+◌, ◌-◌, ◌*◌, List, length, slice_index, ◌==◌, if◌then◌else◌}
use Rattle.gf256.specs.Polynomial.{coef}
use Rattle.chor_xor.specs.Bitmap.{size_of, unit_byte}
use Rattle.wire_frames.specs.Turns.{in_turn, piece}
use Rattle.privacy_law.specs.Hiding.{hiding}
use Rattle.privacy_law.specs.Pieces.{added}

-- the coins with coefficients 1 to t of g added to the t coins of row j
abbrev pub added_to_row : List ℕ → ℕ → List ℕ → ℕ → List ℕ
added_to_row coins t g j = added coins t j (λ e. coef g (e + 1))

-- in Shamir's scheme, t coins a row: the hiding polynomial is added to the rows of both blocks, so
-- that coins stay where these are one
unfoldable pub partner : List ℕ → ℕ → List ℕ → ℕ → ℕ → List ℕ
partner coins t coalition b b2 =
    added_to_row (added_to_row coins t (hiding coalition) b) t (hiding coalition) b2

-- the coins with bit j flipped of one of the bitmaps of r bits that they are
abbrev pub flipped : List ℕ → ℕ → ℕ → ℕ → List ℕ
flipped coins r piece j = added coins (size_of r) piece (unit_byte j)

-- for several blocks: one after another the partner of each block's own r * t coins
unfoldable pub partner_list : List ℕ → ℕ → ℕ → List ℕ → List ℕ → List ℕ → List ℕ
partner_list coins t r coalition bs b2s = in_turn (length bs) (λ i.
    partner (piece (r * t) i coins) t coalition (slice_index bs i) (slice_index b2s i))

-- how many coins the bitmaps of n servers for r rows take: one for each server but the last
abbrev pub bitmap_coins : ℕ → ℕ → ℕ
bitmap_coins n r = (n - 1) * size_of r

-- in the XOR scheme of n servers, for all of them but one: the bits of both blocks are flipped in
-- its bitmap, unless it is the last server, who alone has a bitmap that isn't coins
unfoldable pub partner_xor : List ℕ → ℕ → ℕ → ℕ → ℕ → ℕ → List ℕ
partner_xor coins n r left_out b b2 =
    if left_out == n then coins else flipped (flipped coins r (left_out - 1) b) r (left_out - 1) b2

-- and for several blocks: one after another the partner of each block's own coins
unfoldable pub partner_xor_list : List ℕ → ℕ → ℕ → ℕ → List ℕ → List ℕ → List ℕ
partner_xor_list coins n r left_out bs b2s = in_turn (length bs) (λ i.
    partner_xor (piece (bitmap_coins n r) i coins) n r left_out (slice_index bs i) (slice_index b2s i))
