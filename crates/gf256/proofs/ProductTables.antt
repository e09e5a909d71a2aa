-- The tables of products for all factors.
use Rattle.std.proofs.Common.{◌≡◌, ℕ, ◌+◌, ◌*◌, ◌<◌, List, length, map, get_or, sym, ap, subst, ◌∙◌, arith, inl, inr}
use Rattle.std.specs.List.{range_with_len}
use Rattle.std.specs.Simd.Lanes.{chunk, put_chunk}
use Rattle.std.proofs.lemmas.Bool.{cases_lt}
use Rattle.std.proofs.lemmas.List.{same_lists, length-map, get_or-map, get_or_default}
use Rattle.std.proofs.lemmas.List.FromFn.{get_or-map-range_with_len, length-map-range_with_len}
use Rattle.std.proofs.lemmas.Simd.{length-chunk, length-put_chunk, get_or-chunk, get_or-put_chunk_at, get_or-put_chunk_below}
use Rattle.gf256.specs.Field.{◌⊗◌}
use Rattle.gf256.specs.Products.{low_of}
use Rattle.gf256.proofs.FieldLaws.{mul_one}
use Rattle.gf256.specs.Tables.{HasProducts}

-- a product with one of 16 bytes
product-at : (f i : ℕ) (xs : List ℕ) (g : ℕ → ℕ) → xs ≡ map g (range_with_len 0 16) → i < 16 → get_or (map (λ x. f ⊗ x) xs) i 0 ≡ f ⊗ g i
product-at f i xs g e l =
    let long : length xs ≡ 16 = ap length e ∙ length-map-range_with_len g 0 16 in
    get_or-map (λ x. f ⊗ x) xs i 0 0 (omega arith)
    ∙ ap (λ x. f ⊗ x) (ap (λ ys. get_or ys i 0) e ∙ get_or-map-range_with_len g 0 16 i i 0 l (omega arith))

-- the products of one factor more
pub products-more : (table low high xs ys : List ℕ) (f g at : ℕ) → f < 256 → at ≡ f * 32 → g ≡ f
    → xs ≡ map (λ i. i) (range_with_len 0 16) → ys ≡ map (λ i. i * 16) (range_with_len 0 16)
    → low ≡ map (λ x. g ⊗ x) xs → high ≡ map (λ x. g ⊗ x) ys
    → HasProducts table f → HasProducts (put_chunk (at + 16) (put_chunk at table low) high) (f + 1)
products-more table low high xs ys f g at byte e same is_xs is_ys is_low is_high has =
    let size_xs : length xs ≡ 16 = ap length is_xs ∙ length-map-range_with_len (λ i. i) 0 16 in
    let size_ys : length ys ≡ 16 = ap length is_ys ∙ length-map-range_with_len (λ i. i * 16) 0 16 in
    let size_low : length low ≡ 16 = ap length is_low ∙ length-map xs (λ x. g ⊗ x) ∙ size_xs in
    let size_high : length high ≡ 16 = ap length is_high ∙ length-map ys (λ x. g ⊗ x) ∙ size_ys in
    let mid = put_chunk at table low in
    let room : length mid ≡ 8192 = length-put_chunk at table low ∙ has.size in
    record {
      size = length-put_chunk (at + 16) mid high ∙ room;
      low = λ h i l m.
          elim (cases_lt h f) [
            | inl before ↦
                get_or-put_chunk_below (at + 16) mid high (h * 32 + i) 0 (omega arith)
                ∙ get_or-put_chunk_below at table low (h * 32 + i) 0 (omega arith) ∙ has.low h i before m
            | inr here ↦
                let place : at + i ≡ h * 32 + i = omega arith in
                let this : g ≡ h = omega arith in
                get_or-put_chunk_below (at + 16) mid high (h * 32 + i) 0 (omega arith)
                ∙ subst (λ p. get_or mid p 0 ≡ h ⊗ i) place
                (get_or-put_chunk_at at table low i 0 (omega arith) (omega (arith, has.size)) ∙ ap (λ zs. get_or zs i 0) is_low ∙ product-at g i xs (λ i. i) is_xs m
                ∙ ap (λ y. y ⊗ i) this)
          ];
      high = λ h i l m.
          elim (cases_lt h f) [
            | inl before ↦
                get_or-put_chunk_below (at + 16) mid high (h * 32 + 16 + i) 0 (omega arith)
                ∙ get_or-put_chunk_below at table low (h * 32 + 16 + i) 0 (omega arith) ∙ has.high h i before m
            | inr here ↦
                let place : at + 16 + i ≡ h * 32 + 16 + i = omega arith in
                let this : g ≡ h = omega arith in
                subst (λ p. get_or (put_chunk (at + 16) mid high) p 0 ≡ h ⊗ (i * 16)) place
                (get_or-put_chunk_at (at + 16) mid high i 0 (omega arith) (omega arith) ∙ ap (λ zs. get_or zs i 0) is_high
                ∙ product-at g i ys (λ i. i * 16) is_ys m ∙ ap (λ y. y ⊗ (i * 16)) this)
          ];
    }

-- the products of a factor with 0 to 15, and with 0, 16, .. 240
pub low-table : (table : List ℕ) (f at : ℕ) → f < 256 → at ≡ f * 32 → HasProducts table 256
    → chunk at 16 table ≡ map (λ i. f ⊗ i) (range_with_len 0 16)
low-table table f at byte e has =
    let long = has.size in
    let size : length (chunk at 16 table) ≡ 16 = length-chunk at 16 table (omega arith) in
    same_lists _ _ size
    (λ k d l.
    let small : k < 16 = omega (arith, size) in
    let place : at + k ≡ f * 32 + k = omega arith in
    let within : f * 32 + k < length table = omega arith in
    get_or-chunk at 16 table k d small ∙ ap (λ p. get_or table p d) place ∙ get_or_default table (f * 32 + k) d 0 within ∙ has.low f k byte small
    ∙ sym (get_or-map-range_with_len (λ i. f ⊗ i) 0 16 k k d small (omega arith)))

-- the next 16 bytes of a factor's table are its products with the high halves
pub high-table : (table : List ℕ) (f at : ℕ) → f < 256 → at ≡ f * 32 → HasProducts table 256
    → chunk (at + 16) 16 table ≡ map (λ i. f ⊗ (i * 16)) (range_with_len 0 16)
high-table table f at byte e has =
    let long = has.size in
    let size : length (chunk (at + 16) 16 table) ≡ 16 = length-chunk (at + 16) 16 table (omega arith) in
    same_lists _ _ size
    (λ k d l.
    let small : k < 16 = omega (arith, size) in
    let place : at + 16 + k ≡ f * 32 + 16 + k = omega arith in
    let within : f * 32 + 16 + k < length table = omega arith in
    get_or-chunk (at + 16) 16 table k d small ∙ ap (λ p. get_or table p d) place ∙ get_or_default table (f * 32 + 16 + k) d 0 within ∙ has.high f k byte small
    ∙ sym (get_or-map-range_with_len (λ i. f ⊗ (i * 16)) 0 16 k k d small (omega arith)))

-- the product of a factor with 1 is the factor
pub factor_in : (f : ℕ) (low : List ℕ) → f < 256 → low ≡ low_of f → f ≡ get_or low 1 0
factor_in f low byte is = sym (ap (λ v. get_or v 1 0) is ∙ mul_one f byte)
