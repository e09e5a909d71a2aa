-- In Shamir's sharing the block that enough honest servers hold is agreed on, and so listed.
use Rattle.std.proofs.Common.{◌≡◌, ℕ, zero, suc, ◌+◌, ◌*◌, ◌<◌, ◌≤◌, Bool, List, [], ◌∷◌, All, length, map, get_or, Contains, count_by, bytes_eq, sym, ap, subst, ◌∙◌, arith}
use Rattle.std.specs.List.{range_with_len}
use Rattle.std.proofs.lemmas.List.{ext_get_or, length-map, get_or-map}
use Rattle.std.proofs.lemmas.List.Elements.{All-map}
use Rattle.std.proofs.lemmas.List.FromFn.{length-map-range_with_len, get_or-map-range_with_len}
use Rattle.std.proofs.lemmas.List.Sums.{count_by-le-length}
use Rattle.std.proofs.lemmas.Slice.Eq.{bytes_eq-Decides}
use Rattle.gf256.specs.Polynomial.{coef, val, IsPolynomial}
use Rattle.shamir_share.specs.Query.{query}
use Rattle.quantity_limits.specs.declared.TheConstants.{MOST_SERVERS}
use Rattle.wire_frames.specs.declared.scheme.TheConstants.{SHAMIR}
use Rattle.wire_frames.specs.Answer.{Answer, answers}
use Rattle.wire_frames.specs.Session.{Transcript}
use Rattle.block_decoder.specs.Agreed.{Agreed, answer_at, constants_of, HasColumns}
use Rattle.block_decoder.specs.Verdict.{IsDecided, ListsAtMostOne}
use Rattle.block_decoder.specs.declared.verdict.Verdict.{Verdict}
use Rattle.block_decoder.specs.declared.verdict.Verdict.TheVariants.{Listed, TooFew, TooWeak, TooCostly}
use Rattle.block_decoder.proofs.OneBlock.{close_is_listed}
use Rattle.block_decoder.proofs.Places.{places_of, ascending-places_of, within-places_of, pass-places_of, length-places_of}
use Rattle.gf256.specs.Product.{IsMatrix, product}
use Rattle.wire_frames.specs.Turns.{in_turn, piece}
use Rattle.wire_frames.proofs.Turns.{All-in_turn, in_turn-one, in_turn-same, length-in_turn, length-piece, map-in_turn, piece-whole, piece_fits}
use Rattle.query_rounds.specs.Plan.{query_coins, with_degree}
use Rattle.fetch_client.specs.Held.{block_of, held_as, held_by}
use Rattle.fetch_client.specs.Honest.{IsHonest, answer_by, blocks_of}
use Rattle.query_rounds.specs.Sent.{vector_at}
use Rattle.query_rounds.proofs.Schemes.{coins_of_shamir, payload_of_shamir}
use Rattle.fetch_client.proofs.HonestAnswers.{answer_of_shamir}
use Rattle.fetch_client.proofs.HonestColumns.{column_of, degree-column_of, reply_is, constant-column_of}

-- the answer at an index to the queries for the blocks: for each the product of its query and what the server holds
abbrev pub products_at : (ℕ → List (List ℕ)) → List ℕ → List ℕ → ℕ → ℕ → ℕ → ℕ → List ℕ
products_at held coins blocks t r s a =
    in_turn (length blocks) (λ v. product (held a) s (query (piece (r * t) v coins) t r (get_or blocks v 0) a))

-- at least h of the answers are such, of servers that hold the matrix or their shares of it
pub record AreProducts (answers : List Answer) (matrix : List (List ℕ)) (tau : ℕ) (share_coins coins blocks : List ℕ) (t r s h : ℕ) : Type 0 where
  pub matrix_is : IsMatrix matrix r s
  pub shared : length share_coins ≡ r * s * tau
  pub enough : h ≤ count_by (λ a. bytes_eq a.payload (products_at (held_by tau matrix s share_coins) coins blocks t r s a.index)) answers

-- honest servers answer so
pub answer_by-products : (session : Transcript) (t : ℕ) (held : ℕ → List (List ℕ)) (coins blocks : List ℕ) → session.params.scheme ≡ SHAMIR → (a : ℕ)
    → answer_by (with_degree t session.params) (held a) coins blocks a ≡ products_at held coins blocks t session.params.r session.params.s a
answer_by-products session t held coins blocks one a =
    let p = with_degree t session.params in
    in_turn-same (length blocks) _ _ (λ v l.
    answer_of_shamir p one (held a) (vector_at p coins blocks a v)
    ∙ ap (product (held a) p.s) (payload_of_shamir p one (piece (query_coins p) v coins) (get_or blocks v 0) a
    ∙ ap (λ (n : ℕ). query (piece n v coins) t p.r (get_or blocks v 0) a) (coins_of_shamir p one)))

-- the answers of enough honest servers are enough such products
pub products_from_honest : (session : Transcript) (t tau : ℕ) (matrix : List (List ℕ)) (share_coins coins blocks : List ℕ)
    → session.params.scheme ≡ SHAMIR → IsHonest session t (held_as tau matrix share_coins) coins blocks
    → AreProducts (answers session) matrix tau share_coins coins blocks t session.params.r session.params.s session.params.h
products_from_honest session t tau matrix share_coins coins blocks one honest =
    let p = with_degree t session.params in
    let held = held_by tau matrix p.s share_coins in
    let same : ◌≡◌ {A = ℕ → List ℕ} (λ a. answer_by p (held a) coins blocks a) (products_at held coins blocks t p.r p.s) = λ i a. answer_by-products session t held coins blocks one a i in
    record {
      matrix_is = honest.matrix_is;
      shared = honest.shared;
      enough = subst (λ (f : ℕ → List ℕ). p.h ≤ count_by (λ (a : Answer). bytes_eq a.payload (f a.index)) (answers session)) same honest.enough;
    }

-- the polynomials of all columns of one block
abbrev columns : List (List ℕ) → ℕ → List ℕ → List ℕ → ℕ → ℕ → ℕ → ℕ → List (List ℕ)
columns matrix tau share_coins coins t r s block = map (column_of matrix tau share_coins coins t r s block) (range_with_len 0 s)

module _ (matrix : List (List ℕ)) (tau : ℕ) (share_coins coins : List ℕ) (t r s block : ℕ) where
  abbrev own_columns : List (List ℕ)
  own_columns = columns matrix tau share_coins coins t r s block

  columns_degree : All (IsPolynomial (t + tau)) own_columns
  columns_degree =
      All-map (IsPolynomial (t + tau)) (column_of matrix tau share_coins coins t r s block) (range_with_len 0 s)
      (λ i d l. degree-column_of matrix tau share_coins coins t r s block (get_or (range_with_len 0 s) i d))

  -- their constants are the block
  columns_constants : IsMatrix matrix r s → length share_coins ≡ r * s * tau → length coins ≡ r * t → block < r → block_of matrix block ≡ constants_of own_columns
  columns_constants is shared size within =
      let f = column_of matrix tau share_coins coins t r s block in
      let n = is.rows in
      let wide : length (block_of matrix block) ≡ s = is.widths block [] (omega (arith, within, n)) in
      let m = length-map-range_with_len f 0 s in
      let k = length-map own_columns (λ p. coef p 0) in
      ext_get_or 0 (block_of matrix block) (constants_of own_columns) (wide ∙ sym m ∙ sym k) (λ c l.
      let inside : c < s = omega (arith, l, wide) in
      sym (constant-column_of matrix tau share_coins coins t r s block is shared size within c inside) ∙ ap (λ p. coef p 0) (sym (get_or-map-range_with_len f 0 s c c [] inside (omega arith)))
      ∙ sym (get_or-map (λ p. coef p 0) own_columns c [] 0 (omega (arith, inside, m))))

-- the polynomials of all columns of all blocks
module _ (matrix : List (List ℕ)) (tau : ℕ) (share_coins coins blocks : List ℕ) (t r s : ℕ) where
  abbrev columns_at : ℕ → List (List ℕ)
  columns_at v = columns matrix tau share_coins (piece (r * t) v coins) t r s (get_or blocks v 0)

  pub all_columns : List (List ℕ)
  all_columns = in_turn (length blocks) columns_at

  pub length-all_columns : length all_columns ≡ length blocks * s
  unfolding all_columns
  length-all_columns = length-in_turn (length blocks) s columns_at (λ v l. length-map-range_with_len (column_of matrix tau share_coins (piece (r * t) v coins) t r s (get_or blocks v 0)) 0 s)

  pub degree-all_columns : All (IsPolynomial (t + tau)) all_columns
  unfolding all_columns
  degree-all_columns = All-in_turn (IsPolynomial (t + tau)) (length blocks) columns_at (λ v l. columns_degree matrix tau share_coins (piece (r * t) v coins) t r s (get_or blocks v 0))

  module _ (is : IsMatrix matrix r s) (shared : length share_coins ≡ r * s * tau) (size : length coins ≡ length blocks * (r * t)) where
    own : (v : ℕ) → v < length blocks → length (piece (r * t) v coins) ≡ r * t
    own v l = length-piece (r * t) v coins (omega (arith, piece_fits v (length blocks) (r * t) l, size))

    pub reply-all_columns : (a : ℕ) → map (λ p. val p a) all_columns ≡ products_at (held_by tau matrix s share_coins) coins blocks t r s a
    unfolding all_columns
    reply-all_columns a =
        map-in_turn (length blocks) (λ p. val p a) columns_at
        ∙ in_turn-same (length blocks) _ _ (λ v l. reply_is matrix tau share_coins (piece (r * t) v coins) t r s (get_or blocks v 0) is shared (own v l) a)

    pub constants-all_columns : All (λ b. b < r) blocks → blocks_of matrix blocks ≡ constants_of all_columns
    unfolding all_columns
    constants-all_columns within =
        in_turn-same (length blocks) _ _ (λ v l. columns_constants matrix tau share_coins (piece (r * t) v coins) t r s (get_or blocks v 0) is shared (own v l) (within v 0 l))
        ∙ sym (map-in_turn (length blocks) (λ p. coef p 0) columns_at)

-- where one block is asked for there is one product
pub one_product : (held : ℕ → List (List ℕ)) (coins : List ℕ) (t r s block a : ℕ) → length coins ≡ r * t
    → products_at held coins (block ∷ []) t r s a ≡ product (held a) s (query coins t r block a)
one_product held coins t r s block a size =
    in_turn-one (λ v. product (held a) s (query (piece (r * t) v coins) t r (get_or (block ∷ []) v 0) a))
    ∙ ap (λ (l : List ℕ). product (held a) s (query l t r block a)) (piece-whole (r * t) coins size)

-- the blocks that h honest servers hold are agreed on, as one
pub honest_is_agreed : (answers : List Answer) (matrix : List (List ℕ)) (tau : ℕ) (share_coins coins blocks : List ℕ) (t r s h : ℕ) → length coins ≡ length blocks * (r * t) → All (λ b. b < r) blocks
    → AreProducts answers matrix tau share_coins coins blocks t r s h → Agreed answers (length blocks * s) (t + tau) h (blocks_of matrix blocks)
honest_is_agreed answers matrix tau share_coins coins blocks t r s h size within honest =
    let none : Answer = record { index = 0; payload = [] } in
    let held = held_by tau matrix s share_coins in
    let test : Answer → Bool = λ a. bytes_eq a.payload (products_at held coins blocks t r s a.index) in
    let places = places_of test answers none in
    let inside = within-places_of test answers none in
    let pass = pass-places_of test answers none in
    let is = honest.matrix_is in
    record {
      polynomials = all_columns matrix tau share_coins coins blocks t r s;
      places = places;
      one_a_column = length-all_columns matrix tau share_coins coins blocks t r s;
      degree = degree-all_columns matrix tau share_coins coins blocks t r s;
      ascending = ascending-places_of test answers none;
      within = inside;
      enough = let n = length-places_of test answers none in let e = honest.enough in omega (arith, n, e);
      agree = λ i d l.
          let a = answer_at answers (get_or places i d) in
          (bytes_eq-Decides a.payload (products_at held coins blocks t r s a.index)).0 (pass i d l)
          ∙ sym (reply-all_columns matrix tau share_coins coins blocks t r s is honest.shared size a.index);
      constants = constants-all_columns matrix tau share_coins coins blocks t r s is honest.shared size within;
    }

-- so it is listed, where blocks are
pub honest_is_listed : (answers : List Answer) (matrix : List (List ℕ)) (tau : ℕ) (share_coins coins asked : List ℕ) (t r s h : ℕ) (blocks : List (List ℕ))
    → length coins ≡ length asked * (r * t) → All (λ b. b < r) asked
    → AreProducts answers matrix tau share_coins coins asked t r s h → IsDecided answers (length asked * s) (t + tau) h (Listed blocks) → Contains blocks (blocks_of matrix asked)
honest_is_listed answers matrix tau share_coins coins asked t r s h blocks size within honest is =
    (is.3.exact (blocks_of matrix asked)).1 (honest_is_agreed answers matrix tau share_coins coins asked t r s h size within honest)

-- what has one member at most has only the one that it is known to have
pub only_member : {X : Type 0} (xs : List X) (x : X) → length xs ≤ 1 → Contains xs x → xs ≡ x ∷ []
only_member [] x few (k, l, e) = absurd (omega arith)
only_member (y ∷ []) x few (zero, l, e) = ap (λ z. z ∷ []) e
only_member (y ∷ []) x few (suc k, l, e) = absurd (omega arith)
only_member (y ∷ z ∷ xs) x few c = absurd (omega arith)

-- and alone where 2 h > k + t + tau
pub honest_is_alone : (answers : List Answer) (matrix : List (List ℕ)) (tau : ℕ) (share_coins coins asked : List ℕ) (t r s h : ℕ) (verdict : Verdict)
    → HasColumns (length asked * s) answers → length answers ≤ MOST_SERVERS → length coins ≡ length asked * (r * t)
    → All (λ b. b < r) asked → AreProducts answers matrix tau share_coins coins asked t r s h
    → length answers + (t + tau) < 2 * h → IsDecided answers (length asked * s) (t + tau) h verdict
    → verdict ≡ Listed (blocks_of matrix asked ∷ [])
honest_is_alone answers matrix tau share_coins coins asked t r s h verdict columns most size within honest close is =
    let e = honest.enough in
    let few = count_by-le-length (λ (a : Answer). bytes_eq a.payload (products_at (held_by tau matrix s share_coins) coins asked t r s a.index)) answers in
    by_verdict verdict (close_is_listed answers (length asked * s) (t + tau) h verdict columns (omega (arith, most)) (omega (arith, e, few)) close is) is
  where
    by_verdict : (v : Verdict) → ListsAtMostOne v → IsDecided answers (length asked * s) (t + tau) h v → v ≡ Listed (blocks_of matrix asked ∷ [])
    by_verdict (TooFew k agree) none is = absurd none
    by_verdict (TooWeak k degree agree) none is = absurd none
    by_verdict (TooCostly equations) none is = absurd none
    by_verdict (Listed blocks) few is = ap Listed (only_member blocks (blocks_of matrix asked) few (honest_is_listed answers matrix tau share_coins coins asked t r s h blocks size within honest is))
