-- What honest servers answer, in the one scheme and in the other.
use Rattle.std.proofs.Common.{◌≡◌, ℕ, ◌*◌, List, length, ap}
use Rattle.std.proofs.lemmas.List.FromFn.{length-map-range_with_len}
use Rattle.gf256.specs.Product.{product_at, product}
use Rattle.wire_frames.specs.declared.scheme.TheConstants.{SHAMIR, XOR}
use Rattle.wire_frames.specs.declared.scheme.Scheme.{Scheme}
use Rattle.wire_frames.specs.declared.scheme.Scheme.TheVariants.{Shamir, Xor}
use Rattle.wire_frames.specs.declared.session.SessionParams.{SessionParams}
use Rattle.wire_frames.specs.Scheme.{scheme_of}
use Rattle.wire_frames.proofs.Turns.{length-in_turn}
use Rattle.wire_frames.proofs.Schemes.{xor_is, shamir_is}
use Rattle.chor_xor.specs.Chosen.{chosen}
use Rattle.chor_xor.proofs.ChosenSums.{length-chosen}
use Rattle.query_rounds.specs.Sent.{vector_at}
use Rattle.fetch_client.specs.Honest.{answer_at, answer_by, answer_in, honest_answer}

-- in the XOR scheme
pub answer_of_xor : (p : SessionParams) (two : p.scheme ≡ XOR) (matrix : List (List ℕ)) (payload : List ℕ)
    → honest_answer p matrix payload ≡ chosen (record { rows = matrix; width = p.s }) payload
unfolding honest_answer
answer_of_xor p two matrix payload = ap (λ (s : Scheme). answer_in s p matrix payload) (xor_is p.scheme two)

-- in Shamir's sharing
pub answer_of_shamir : (p : SessionParams) (one : p.scheme ≡ SHAMIR) (matrix : List (List ℕ)) (payload : List ℕ)
    → honest_answer p matrix payload ≡ product matrix p.s payload
unfolding honest_answer
answer_of_shamir p one matrix payload = ap (λ (s : Scheme). answer_in s p matrix payload) (shamir_is p.scheme one)

-- a product is as wide as the matrix
length-product : (matrix : List (List ℕ)) (width : ℕ) (query : List ℕ) → length (product matrix width query) ≡ width
unfolding product
length-product matrix width query = length-map-range_with_len (product_at query matrix) 0 width

-- how long an answer is
pub length-honest_answer : (p : SessionParams) (matrix : List (List ℕ)) (payload : List ℕ)
    → length (honest_answer p matrix payload) ≡ p.s
unfolding honest_answer
length-honest_answer p matrix payload = by_scheme (scheme_of p.scheme)
  where
    by_scheme : (s : Scheme) → length (answer_in s p matrix payload) ≡ p.s
    by_scheme Shamir = length-product matrix p.s payload
    by_scheme Xor = length-chosen (record { rows = matrix; width = p.s }) payload

-- and one to a query for several blocks, which has a row for each
pub length-answer_by : (p : SessionParams) (matrix : List (List ℕ)) (coins blocks : List ℕ) (i : ℕ)
    → length (answer_by p matrix coins blocks i) ≡ length blocks * p.s
length-answer_by p matrix coins blocks i =
    length-in_turn (length blocks) p.s (answer_at p matrix coins blocks i) (λ v l. length-honest_answer p matrix (vector_at p coins blocks i v))
