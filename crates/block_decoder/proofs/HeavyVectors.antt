-- How many heavy vectors there are: at most as many as Johnson's bound says.
use Rattle.std.proofs.Common.{◌≡◌, ◌≢◌, ℕ, ◌*◌, ◌<◌, ◌≤◌, ◌&&◌, Bool, true, List, [], ◌∷◌, length, map, take, get_or, filter, count_by, All, AllPairs, refl, sym, ap, ◌∙◌, arith, inl, inr}
use Rattle.std.proofs.lemmas.Bool.{and_parts, cases_lt}
use Rattle.std.proofs.lemmas.List.{ext_get_or, length-map, get_or-map}
use Rattle.std.proofs.lemmas.List.Elements.{All-map, All-filter, filter_passes}
use Rattle.std.proofs.lemmas.List.Kept.{AllPairs-filter}
use Rattle.std.proofs.lemmas.List.Sums.{length-filter}
use Rattle.std.proofs.lemmas.Slice.Eq.{bytes_eq-Decides}
use Rattle.gf256.specs.Polynomial.{val, IsPolynomial}
use Rattle.uni_poly.proofs.Coefficients.{HasDegreeBelow-length, list_from_same, IsBytes-from_all}
use Rattle.uni_poly.proofs.Uniqueness.{same_polynomial}
use Rattle.wire_frames.specs.Answer.{Answer}
use Rattle.block_decoder.specs.Agreed.{holds_first}
use Rattle.block_decoder.specs.Numbers.{bound_of}
use Rattle.block_decoder.specs.Vectors.{AreHeavyVectors}
use Rattle.block_decoder.proofs.Johnson.{few_pass}
use Rattle.block_decoder.proofs.Pairs.{AllPairs-map}

-- ---- vectors that hold at the same answers

-- polynomials of degree at most t that are equal at more than t indices are one
same_by_values : (t : ℕ) (p q xs : List ℕ) → IsPolynomial t p → IsPolynomial t q → t < length xs
    → All (λ x. x < 256) xs → AllPairs (λ x y. x ≢ y) xs → All (λ x. val p x ≡ val q x) xs → p ≡ q
same_by_values t p q xs of_p of_q many bytes different equal =
    let size_p = of_p.size in
    let size_q = of_q.size in
    list_from_same p q (size_p ∙ sym size_q)
    (same_polynomial p q xs (IsBytes-from_all p of_p.bytes) (IsBytes-from_all q of_q.bytes)
    (HasDegreeBelow-length p (length xs) (omega (arith, size_p, many)))
    (HasDegreeBelow-length q (length xs) (omega (arith, size_q, many))) bytes different equal)

-- where two vectors of one length hold at an answer, their values are equal
equal_values : (v w : List (List ℕ)) (a : Answer) → length v ≡ length w
    → (holds_first v a && holds_first w a) ≡ true → map (λ p. val p a.index) v ≡ map (λ p. val p a.index) w
equal_values v w a same both =
    let values : List (List ℕ) → List ℕ = map (λ p. val p a.index) in
    let (of_v, of_w) = and_parts (holds_first v a) (holds_first w a) both in
    sym ((bytes_eq-Decides (take (length v) a.payload) (values v)).0 of_v)
    ∙ ap (λ n. take n a.payload) same
    ∙ (bytes_eq-Decides (take (length w) a.payload) (values w)).0 of_w

module _ (answers : List Answer) (bytes : All (λ a. a.index < 256) answers)
    (different : AllPairs (λ a b. a.index ≢ b.index) answers) where
  -- vectors that hold together at more than t answers are one
  pub same_vectors : (c t : ℕ) (v w : List (List ℕ)) → length v ≡ c → length w ≡ c
      → All (IsPolynomial t) v → All (IsPolynomial t) w
      → t < count_by (λ a. holds_first v a && holds_first w a) answers → v ≡ w
  same_vectors c t v w wide_v wide_w degree_v degree_w many =
      let test : Answer → Bool = λ a. holds_first v a && holds_first w a in
      let index : Answer → ℕ = λ a. a.index in
      let both : List Answer = filter test answers in
      let size = length-filter test answers in
      let indices = length-map both index in
      let same : length v ≡ length w = wide_v ∙ sym wide_w in
      ext_get_or [] v w same (λ i l.
      let m : i < length w = omega (arith, l, same) in
      same_by_values t (get_or v i []) (get_or w i []) (map index both) (degree_v i [] l) (degree_w i [] m)
      (omega (arith, many, size, indices))
      (All-map (λ x. x < 256) index both (All-filter test (λ a. index a < 256) answers bytes))
      (AllPairs-map (λ x y. x ≢ y) index both (AllPairs-filter (λ a b. index a ≢ index b) test answers different))
      (All-map (λ x. val (get_or v i []) x ≡ val (get_or w i []) x) index both (λ k d n.
      let a : Answer = get_or both k d in
      sym (get_or-map (λ p. val p a.index) v i [] 0 l)
      ∙ ap (λ ys. get_or ys i 0) (equal_values v w a same (filter_passes test answers k d n))
      ∙ get_or-map (λ p. val p a.index) w i [] 0 m)))

  -- different vectors hold together at t answers at most
  pub few_shared : (c t : ℕ) (v w : List (List ℕ)) → length v ≡ c → length w ≡ c
      → All (IsPolynomial t) v → All (IsPolynomial t) w → v ≢ w
      → count_by (λ a. holds_first v a && holds_first w a) answers ≤ t
  few_shared c t v w wide_v wide_w degree_v degree_w differ =
      elim (cases_lt t (count_by (λ a. holds_first v a && holds_first w a) answers)) [
        | inl many ↦ absurd (differ (same_vectors c t v w wide_v wide_w degree_v degree_w many))
        | inr few ↦ few
      ]

  -- a list of heavy vectors has at most as many members as Johnson's bound says, where k * t < h * h
  pub few_heavy : (c t h : ℕ) (vectors : List (List (List ℕ))) → t < h → length answers * t < h * h
      → AreHeavyVectors answers c t h vectors → length vectors ≤ bound_of (length answers) t h
  few_heavy c t h vectors less strong are =
      few_pass holds_first answers t h vectors less strong (λ i d l. (are.heavy i d l).enough)
      (λ i j d before l.
      let k : i < length vectors = omega (arith, before, l) in
      let v = are.heavy i d k in
      let w = are.heavy j d l in
      few_shared c t (get_or vectors i d) (get_or vectors j d) v.one_a_column w.one_a_column v.degree w.degree
      (are.different i j d before l))

-- ---- no column

-- a list of no elements is empty
pub empty_list : {X : Type 0} (xs : List X) → length xs ≡ 0 → xs ≡ []
empty_list [] e = refl
empty_list (x ∷ xs) e = absurd (omega arith)

-- for no column there is one at most, the empty vector
pub one_for_no_column : (answers : List Answer) (t h : ℕ) (vectors : List (List (List ℕ)))
    → AreHeavyVectors answers 0 t h vectors → length vectors ≤ 1
one_for_no_column answers t h vectors are =
    elim (cases_lt 1 (length vectors)) [
      | inl many ↦
          let first = empty_list (get_or vectors 0 []) ((are.heavy 0 [] (omega (arith, many))).one_a_column) in
          let second = empty_list (get_or vectors 1 []) ((are.heavy 1 [] many).one_a_column) in
          absurd (are.different 0 1 [] (omega arith) many (first ∙ sym second))
      | inr few ↦ few
    ]
