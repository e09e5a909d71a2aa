-- How many lists are made in all: along each way their sizes lie apart, and vectors of about one size have parted.
use Rattle.std.proofs.Common.{◌≡◌, ℕ, zero, suc, ◌+◌, ◌-◌, ◌*◌, ◌/◌, ◌<◌, ◌≤◌, Bool, not, ltb, ltb-true, ltb-false, List, [], ◌∷◌, length, get_or, filter, All, AllPairs, refl, sym, ap, subst, inl, inr, arith}
use Rattle.std.proofs.Math.Nat.{mul-le-mul_right, mul-le-mul_left, lt-div-mul-add, div-le_self, div-mul-le_self, le_of_mul-le-mul_right}
use Rattle.std.proofs.lemmas.Bool.{not-true}
use Rattle.std.proofs.lemmas.Nat.{le-div}
use Rattle.std.proofs.lemmas.List.Elements.{All-filter, filter_passes}
use Rattle.std.proofs.lemmas.List.Filters.{length-filter_both}
use Rattle.std.proofs.lemmas.List.Kept.{AllPairs-filter}
use Rattle.std.proofs.lemmas.List.Sums.{count_by-le-length}
use Rattle.column_runs.specs.Close.{least_misses}
use Rattle.block_decoder.specs.Agreed.{holds_first, weight}
use Rattle.block_decoder.specs.Lists.{misses_of, LosesOrParts, NodesFrom}
use Rattle.block_decoder.specs.Numbers.{bound_of, bounds_from, most_lists}
use Rattle.block_decoder.specs.declared.decoding.Decoding.{Decoding}
use Rattle.block_decoder.proofs.Johnson.{few_pass}
use Rattle.block_decoder.proofs.Products.{products_up}

-- ---- vectors with so many answers and more

-- where some answers are so many that their blocks are few, so are more
strong_more : (k t h a : ℕ) → h ≤ a → k * t < h * h → k * t < a * a
strong_more k t h a l strong =
    let m = mul-le-mul_right h l in
    let n = mul-le-mul_left a l in
    omega (arith, m, n, strong)

module _ (d : Decoding) (less : d.degree < d.agreement) (strong : length d.answers * d.degree < d.agreement * d.agreement) where
  -- of vectors that hold at a answers and more, and at fewer than w more than a, none has lost w answers of another, so any
  -- two have parted
  few_alike : (a : ℕ) (vectors : List (List (List ℕ))) → d.agreement ≤ a → All (λ v. a ≤ weight v d.answers) vectors
      → All (λ v. weight v d.answers < a + misses_of d) vectors → AllPairs (LosesOrParts d) vectors
      → length vectors ≤ bound_of (length d.answers) d.degree a
  few_alike a vectors enough many few apart =
      few_pass holds_first d.answers d.degree a vectors (omega (arith, less, enough)) (strong_more (length d.answers) d.degree d.agreement a enough strong)
      many (λ i j z before within.
      let low = many j z within in
      let high = few i z (omega (arith, before, within)) in
      elim (apart i j z before within) [
        | inl lost ↦ absurd (omega (arith, low, high, lost))
        | inr shares ↦ shares
      ])

  -- and at fewer than numbers times w more than a
  few_between : (numbers a : ℕ) (vectors : List (List (List ℕ))) → d.agreement ≤ a → All (λ v. a ≤ weight v d.answers) vectors
      → All (λ v. weight v d.answers < a + numbers * misses_of d) vectors → AllPairs (LosesOrParts d) vectors
      → length vectors ≤ bounds_from (length d.answers) d.degree (misses_of d) a numbers
  unfolding bounds_from
  few_between zero a [] enough many few apart = omega arith
  few_between zero a (v ∷ vectors) enough many few apart =
      absurd (let low = many 0 v (omega arith) in let high = few 0 v (omega arith) in omega (arith, low, high))
  few_between (suc numbers) a vectors enough many few apart =
      let step : ℕ = misses_of d in
      let near : List (List ℕ) → Bool = λ v. ltb (weight v d.answers) (a + step) in
      let far : List (List ℕ) → Bool = λ v. not (near v) in
      let first = few_alike a (filter near vectors) enough (All-filter near (λ v. a ≤ weight v d.answers) vectors many)
      (λ i z l. ltb-true (weight (get_or (filter near vectors) i z) d.answers) (a + step) (filter_passes near vectors i z l))
      (AllPairs-filter (LosesOrParts d) near vectors apart) in
      let rest = few_between numbers (a + step) (filter far vectors) (omega (arith, enough))
      (λ i z l.
      let v = get_or (filter far vectors) i z in
      ltb-false (weight v d.answers) (a + step) (not-true (near v) (filter_passes far vectors i z l)))
      (λ i z l.
      let high = All-filter far (λ v. weight v d.answers < a + suc numbers * step) vectors few i z l in
      let split : suc numbers * step ≡ numbers * step + step = omega arith in
      omega (arith, high, split))
      (AllPairs-filter (LosesOrParts d) far vectors apart) in
      let both = length-filter_both near far (λ v. refl) vectors in
      omega (arith, first, rest, both)

-- ---- all of them

-- the greatest number of answers is in the last stretch
reaches : (k h weight step : ℕ) → 0 < step → weight ≤ k → weight < (h + step) + (k - h) / step * step
reaches k h weight step some l =
    let last = lt-div-mul-add {a = k - h} {b = step} some in
    omega (arith, last, l)

-- from the empty vector
pub few_nodes : (d : Decoding) (most old new : ℕ) → d.degree < d.agreement → length d.answers * d.degree < d.agreement * d.agreement → 0 < misses_of d
    → NodesFrom d most [] old new → new ≤ old + most_lists (length d.answers) d.degree d.agreement * most
unfolding most_lists
few_nodes d most old new less strong some from =
    let k = length d.answers in
    let few = few_between d less strong ((k - d.agreement) / misses_of d) (d.agreement + misses_of d) from.vectors (omega arith)
    (λ i z l. (from.take.each i z l).enough)
    (λ i z l. reaches k d.agreement (weight (get_or from.vectors i z) d.answers) (misses_of d) some
    (count_by-le-length (holds_first (get_or from.vectors i z)) d.answers))
    from.take.apart in
    products_up (length from.vectors) (most_lists k d.degree d.agreement) most old new few from.nodes

-- ---- beside the count for each number of answers

-- where products compare crosswise, quotients do
quotients : (p b q c : ℕ) → 0 < b → 0 < c → p * c ≤ q * b → p / b ≤ q / c
quotients p b q c some more l =
    let whole = mul-le-mul_right c (div-mul-le_self p b) in
    let turned : p / b * b * c ≡ p / b * c * b = omega arith in
    le-div (p / b) q c more (le_of_mul-le-mul_right {m = p / b * c} {n = q} {k = b} (omega (arith, whole, turned, l)) some)

-- a greater square grows by more than what is added to one factor
crosswise : (k x d n small great : ℕ) → great ≡ small + d * n → small ≤ x * n → k * (x + d) * small ≤ k * x * great
crosswise k x d n small great e narrow =
    let m = mul-le-mul_left d narrow in
    let grown = ap (λ y. x * y) e in
    let split : x * (small + d * n) ≡ x * small + x * (d * n) = omega arith in
    let turned : x * (d * n) ≡ d * (x * n) = omega arith in
    let parts : (x + d) * small ≡ x * small + d * small = omega arith in
    let l : (x + d) * small ≤ x * great = omega (arith, m, grown, split, turned, parts) in
    let both = mul-le-mul_left k l in
    let left : k * (x + d) * small ≡ k * ((x + d) * small) = omega arith in
    let right : k * x * great ≡ k * (x * great) = omega arith in
    omega (arith, both, left, right)

-- more answers agree on no more blocks
bound-le_plus : (k t h d : ℕ) → t < h → h ≤ k → k * t < h * h → bound_of k t (h + d) ≤ bound_of k t h
bound-le_plus k t h d less inside strong =
    let x : ℕ = h - t in
    let great : ℕ = (h + d) * (h + d) - k * t in
    let small : ℕ = h * h - k * t in
    let square : (h + d) * (h + d) ≡ h * h + d * (h + d + h) = omega arith in
    let grown : great ≡ small + d * (h + d + h) = omega (arith, square, strong) in
    let shift : h + d - t ≡ x + d = omega (arith, less) in
    let parts : h * (x + t) ≡ h * x + h * t = omega arith in
    let whole : h * h ≡ h * (x + t) = ap (λ n. h * n) (omega (arith, less)) in
    let most = mul-le-mul_right t inside in
    let wide : x * (h + d + h) ≡ x * (h + d) + h * x = omega arith in
    let narrow : small ≤ x * (h + d + h) = omega (arith, parts, whole, most, wide) in
    quotients (k * (h + d - t)) great (k * x) small (omega (arith, square, strong)) (omega (arith, strong))
    (subst (λ n. k * n * small ≤ k * x * great) (sym shift) (crosswise k x d (h + d + h) small great grown narrow))

-- the same for any greater number of answers
pub bound-le : (k t h a : ℕ) → t < h → h ≤ k → h ≤ a → k * t < h * h → bound_of k t a ≤ bound_of k t h
bound-le k t h a less inside l strong =
    let whole : h + (a - h) ≡ a = omega (arith, l) in
    subst (λ n. bound_of k t n ≤ bound_of k t h) whole (bound-le_plus k t h (a - h) less inside strong)

-- so the sum of such counts is no greater than so many times the first
bounds-le : (k t step numbers h a : ℕ) → t < h → h ≤ k → h ≤ a → k * t < h * h
    → bounds_from k t step a numbers ≤ numbers * bound_of k t h
unfolding bounds_from
bounds-le k t step zero h a less inside l strong = omega arith
bounds-le k t step (suc numbers) h a less inside l strong =
    let one = bound-le k t h a less inside l strong in
    let rest = bounds-le k t step numbers h (a + step) less inside (omega (arith, l)) strong in
    omega (arith, one, rest)

-- no more lists than one for each block and each number of answers
pub lists-le : (k t h : ℕ) → t < h → h ≤ k → k * t < h * h → most_lists k t h ≤ bound_of k t h * (k - h + 1)
unfolding most_lists
lists-le k t h less inside strong =
    let all = bounds-le k t (least_misses t h) ((k - h) / least_misses t h) h (h + least_misses t h) less inside (omega arith) strong in
    let few = mul-le-mul_right (bound_of k t h) (div-le_self (k - h) (least_misses t h)) in
    let turned : (k - h) * bound_of k t h ≡ bound_of k t h * (k - h) = omega arith in
    let more : bound_of k t h * (k - h + 1) ≡ bound_of k t h * (k - h) + bound_of k t h = omega arith in
    omega (arith, all, few, turned, more)
