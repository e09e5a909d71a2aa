-- What a query asks for has its place in the room.
use Rattle.std.proofs.Common.{ℕ, ◌*◌, ◌≤◌, subst, arith}
use Rattle.std.proofs.Math.Nat.{mul-le-mul_right, mul-le-mul_left, le-min}
use Rattle.std.proofs.lemmas.Nat.{le-div}
use Rattle.quantity_limits.specs.declared.TheConstants.{MOST_WIDTH}
use Rattle.wire_frames.specs.Sizes.{answer_len}
use Rattle.wire_frames.specs.declared.header.QueryHeader.{QueryHeader}
use Rattle.wire_frames.specs.Limits.{IsQuery}
use Rattle.serve_core.specs.Terms.{most_blocks_for, payload_len_for, vector_len_for}
use Rattle.serve_core.specs.Service.{Service, sums_len_for, terms_of}
use Rattle.serve_core.specs.Case.{IsShaped}
use Rattle.serve_core.specs.declared.terms.Terms.{Terms}

-- a query that is good asks for so many blocks at most
pub few_blocks : (terms : Terms) (query : QueryHeader) → IsQuery query → IsShaped terms query → query.count ≤ most_blocks_for terms
unfolding most_blocks_for
few_blocks terms query range shaped =
    let bytes : query.count * terms.width ≤ MOST_WIDTH = subst (λ (w : ℕ). query.count * w ≤ MOST_WIDTH) shaped.width range.blocks.few_bytes in
    let some : 1 ≤ terms.width = omega (arith, shaped.width, range.shape.some_bytes) in
    le-min (omega (arith, range.blocks.few_blocks)) (le-div query.count MOST_WIDTH terms.width (omega (arith, some)) bytes)

-- and so its payload fits
pub payload_fits : (terms : Terms) (query : QueryHeader) → IsQuery query → IsShaped terms query
    → payload_len_for terms query.count ≤ payload_len_for terms (most_blocks_for terms)
payload_fits terms query range shaped = mul-le-mul_right (vector_len_for terms) (few_blocks terms query range shaped)

-- the workers' sums for so many blocks, and the frame of the answer
module _ (service : Service) (count : ℕ) (few : count ≤ most_blocks_for (terms_of service)) where
  -- the rows of so many blocks are no more than those of the most
  rows_fit : count * service.database.width ≤ most_blocks_for (terms_of service) * service.database.width
  rows_fit = mul-le-mul_right service.database.width few

  -- and so are the sums of the workers
  pub sums_fit : sums_len_for service count ≤ sums_len_for service (most_blocks_for (terms_of service))
  sums_fit = mul-le-mul_left service.workers rows_fit

  -- and the bytes of the frame
  pub frame_fits : answer_len count service.database.width ≤ answer_len (most_blocks_for (terms_of service)) service.database.width
  frame_fits = omega (arith, rows_fit)
