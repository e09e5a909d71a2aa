-- At which answers polynomials hold in their first columns, and at how many.
use Rattle.std.proofs.Common.{◌≡◌, ◌≢◌, ℕ, ◌<◌, ◌≤◌, ◌&&◌, ◌⊎◌, Bool, true, false, eqb, List, [], ◌∷◌, ◌++◌, length, get_or, take, map, refl, sym, ap, ap₂, ◌∙◌, inl, inr, arith}
use Rattle.std.proofs.lemmas.List.{ext_get_or, length-map, length-append, length-take-le, get_or-map, get_or-take, get_or_append_left, take-take, take-map}
use Rattle.std.proofs.Math.Seq.{take-append_seam, get_or-append_seam}
use Rattle.std.proofs.lemmas.Bool.{false≢true, false_from_ne_true, cases_lt}
use Rattle.std.proofs.lemmas.Bool.Decides.{eqb_tells}
use Rattle.std.proofs.lemmas.List.Sums.{sum_by-le-sum_by}
use Rattle.std.proofs.lemmas.Slice.Eq.{bytes_eq-Decides}
use Rattle.gf256.specs.Polynomial.{val}
use Rattle.wire_frames.specs.Answer.{Answer}
use Rattle.block_decoder.specs.Agreed.{holds_first, weight}
use Rattle.block_decoder.proofs.Counting.{one_if}

module _ (ps : List (List ℕ)) (a : Answer) (long : length ps ≤ length a.payload) where
  -- what the polynomials take at the answer's index
  values : List ℕ
  values = map (λ p. val p a.index) ps

  -- the polynomials hold where in each of their columns the value is the byte
  pub holds_first-true : ((k : ℕ) → k < length ps → val (get_or ps k []) a.index ≡ get_or a.payload k 0) → holds_first ps a ≡ true
  unfolding values
  holds_first-true h =
      let n = length-map ps (λ p. val p a.index) in
      let m = length-take-le (length ps) a.payload long in
      (bytes_eq-Decides (take (length ps) a.payload) values).1
      (ext_get_or 0 (take (length ps) a.payload) values (m ∙ sym n) (λ k lt.
      let l : k < length ps = omega arith in
      get_or-take (length ps) a.payload k 0 l ∙ sym (h k l) ∙ sym (get_or-map (λ p. val p a.index) ps k [] 0 l)))

  -- and do not hold where in one of them it is another
  pub holds_first-false : (k : ℕ) → k < length ps → val (get_or ps k []) a.index ≢ get_or a.payload k 0 → holds_first ps a ≡ false
  unfolding values
  holds_first-false k l differ =
      not_true (holds_first ps a) (λ t. differ (
      sym (get_or-map (λ p. val p a.index) ps k [] 0 l)
      ∙ ap (λ bytes. get_or bytes k 0) (sym ((bytes_eq-Decides (take (length ps) a.payload) values).0 t))
      ∙ get_or-take (length ps) a.payload k 0 l))
    where
      not_true : (b : Bool) → b ≢ true → b ≡ false
      not_true true n = absurd (n refl)
      not_true false n = refl

-- where polynomials hold, the first of them do
pub holds_first-append : (ps qs : List (List ℕ)) (a : Answer) → holds_first (ps ++ qs) a ≡ true → holds_first ps a ≡ true
holds_first-append ps qs a h =
    let f : List ℕ → ℕ = λ p. val p a.index in
    let n = length-append ps qs in
    let l : length ps ≤ length (ps ++ qs) = omega arith in
    let e = (bytes_eq-Decides (take (length (ps ++ qs)) a.payload) (map f (ps ++ qs))).0 h in
    (bytes_eq-Decides (take (length ps) a.payload) (map f ps)).1
    (sym (take-take (length ps) (length (ps ++ qs)) a.payload l) ∙ ap (take (length ps)) e ∙ take-map f (length ps) (ps ++ qs) ∙ ap (map f) (take-append_seam ps qs))

-- where polynomials hold, each takes its byte
holds_first-column : (ps : List (List ℕ)) (a : Answer) (k : ℕ) → length ps ≤ length a.payload → k < length ps → holds_first ps a ≡ true → val (get_or ps k []) a.index ≡ get_or a.payload k 0
holds_first-column ps a k long l h =
    sym (get_or-map (λ p. val p a.index) ps k [] 0 l)
    ∙ ap (λ bytes. get_or bytes k 0) (sym ((bytes_eq-Decides (take (length ps) a.payload) (map (λ p. val p a.index) ps)).0 h))
    ∙ get_or-take (length ps) a.payload k 0 l

-- a test passes or fails
either_bool : (b : Bool) → (b ≡ true) ⊎ (b ≡ false)
either_bool true = inl refl
either_bool false = inr refl

-- one column more: the polynomials hold where they did before, and the next takes its byte
pub holds_first-more : (ps : List (List ℕ)) (p : List ℕ) (a : Answer) (n : ℕ) → length ps ≡ n → n < length a.payload
    → holds_first (ps ++ p ∷ []) a ≡ (holds_first ps a && eqb (val p a.index) (get_or a.payload n 0))
holds_first-more ps p a n size long =
    let more = length-append ps (p ∷ []) in
    let fits : length (ps ++ p ∷ []) ≤ length a.payload = omega (arith, more, size, long) in
    let last : get_or (ps ++ p ∷ []) n [] ≡ p = ap (λ k. get_or (ps ++ p ∷ []) k []) (sym size) ∙ get_or-append_seam ps p [] [] in
    elim (either_bool (holds_first ps a)) [
      | inl good ↦ elim (eqb_tells (val p a.index) (get_or a.payload n 0)) [
        | inl same ↦
            holds_first-true (ps ++ p ∷ []) a fits (λ k l. elim (cases_lt k n) [
              | inl before ↦
                  ap (λ q. val q a.index) (get_or_append_left ps (p ∷ []) [] k (omega (arith, before, size)))
                  ∙ holds_first-column ps a k (omega (arith, size, long)) (omega (arith, before, size)) good
              | inr later ↦
                  let here : k ≡ n = omega (arith, l, more, size, later) in
                  ap (λ k. val (get_or (ps ++ p ∷ []) k []) a.index) here ∙ ap (λ q. val q a.index) last ∙ same.1 ∙ ap (λ k. get_or a.payload k 0) (sym here)
            ])
            ∙ sym (ap₂ ◌&&◌ good same.0)
        | inr other ↦
            holds_first-false (ps ++ p ∷ []) a fits n (omega (arith, more, size)) (λ e. other.1 (ap (λ q. val q a.index) (sym last) ∙ e))
            ∙ sym (ap₂ ◌&&◌ good other.0)
      ]
      | inr bad ↦
          false_from_ne_true (holds_first (ps ++ p ∷ []) a) (λ h. false≢true (sym bad ∙ holds_first-append ps (p ∷ []) a h))
          ∙ sym (ap (λ b. b && eqb (val p a.index) (get_or a.payload n 0)) bad)
    ]

-- a test counts no more than one that passes wherever it does
pub one_if-le : (b c : Bool) → (b ≡ true → c ≡ true) → one_if b ≤ one_if c
one_if-le false c h = omega arith
one_if-le true true h = omega arith
one_if-le true false h = absurd (false≢true (h refl))

-- more polynomials hold at no more answers
pub weight-append : (ps qs : List (List ℕ)) (answers : List Answer) → weight (ps ++ qs) answers ≤ weight ps answers
weight-append ps qs answers =
    sum_by-le-sum_by (λ a. one_if (holds_first (ps ++ qs) a)) (λ a. one_if (holds_first ps a)) answers
    (λ a. one_if-le (holds_first (ps ++ qs) a) (holds_first ps a) (holds_first-append ps qs a))
