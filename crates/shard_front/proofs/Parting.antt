-- The parts of a query.
use Rattle.std.proofs.Common.{◌≡◌, ◌∙◌, ℕ, ◌+◌, ◌-◌, ◌<◌, List, ◌++◌, length, take, drop, ap, ap₂, arith, length-drop}
use Rattle.wire_frames.specs.declared.sizes.TheConstants.{FRAME_HEADER_LEN}
use Rattle.wire_frames.specs.declared.header.QueryHeader.{QueryHeader}
use Rattle.wire_frames.specs.Header.{query_header}
use Rattle.shard_front.specs.Spread.{Spread, first_row, rows_in}
use Rattle.shard_front.specs.Parts.{header_to, part_for, slice_for, slices_for}

-- a slice, by the places where it begins and ends
pub slice_is : (spread : Spread) (i from size : ℕ) (vector : List ℕ) → from ≡ first_row spread i → size ≡ rows_in spread i
    → take (from + size - from) (drop from vector) ≡ slice_for spread i vector
slice_is spread i from size vector at long =
    ap₂ (λ (n m : ℕ). take n (drop m vector)) (let n : from + size - from ≡ size = omega arith in n ∙ long) at

-- a header and slices are a part
pub part_is : (spread : Spread) (query : QueryHeader) (vectors : List ℕ) (i : ℕ) (header slices : List ℕ)
    → header ≡ query_header (header_to spread query i) → slices ≡ slices_for spread i query.count vectors
    → header ++ slices ≡ part_for spread query vectors i
unfolding part_for
part_is spread query vectors i header slices a b = ap₂ (λ (x y : List ℕ). x ++ y) a b

-- what stands behind the header of a frame, by its size
pub rest_size : (frame rest : List ℕ) (size : ℕ) → rest ≡ drop FRAME_HEADER_LEN frame → length frame ≡ FRAME_HEADER_LEN + size → length rest ≡ size
rest_size frame rest size is long = ap length is ∙ omega (arith, length-drop FRAME_HEADER_LEN frame, long)

-- a frame has room for its header
pub not_short : (size long : ℕ) → long < FRAME_HEADER_LEN → long ≡ FRAME_HEADER_LEN + size → ⊥
not_short size long short is = omega arith
