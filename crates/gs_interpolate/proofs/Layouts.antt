-- Rows of given lengths, one after the other.
use Rattle.std.proofs.Common.{◌≡◌, ℕ, zero, suc, ◌+◌, ◌-◌, ◌<◌, ◌≤◌, List, [], ◌∷◌, length, get_or, take, sum, sym, ap, subst, ◌∙◌, arith, inl, inr, add-one}
use Rattle.std.proofs.lemmas.Bool.{cases_lt}
use Rattle.std.proofs.lemmas.List.Sums.{sum_by-cons, sum_by_more, sum_by_more_le}
use Rattle.gs_interpolate.specs.Layout.{start}

-- a row begins where the one before ends
pub start-next : (ns : List ℕ) (j : ℕ) → j < length ns → start ns (j + 1) ≡ start ns j + get_or ns j 0
start-next ns j l = sum_by_more (λ x. x) ns j 0 l

-- no row ends past the end
pub start-within : (ns : List ℕ) (j : ℕ) → j < length ns → start ns j + get_or ns j 0 ≤ sum ns
start-within ns j l = sum_by_more_le (λ x. x) ns j 0 l

-- rows before another end before it begins
pub start-before : (ns : List ℕ) (i j : ℕ) → i < j → j < length ns → start ns i + get_or ns i 0 ≤ start ns j
start-before ns i zero l h = absurd (omega arith)
start-before ns i (suc j) l h =
    let e = start-next ns j (omega arith) in
    let f : start ns (suc j) ≡ start ns j + get_or ns j 0 = ap (start ns) (sym (add-one j)) ∙ e in
    elim (cases_lt i j) [
      | inl k ↦ let ih = start-before ns i j k (omega arith) in omega arith
      | inr k ↦
          let same : j ≡ i = omega arith in
          subst (λ x. start ns x + get_or ns x 0 ≤ start ns (suc j)) same (omega arith)
    ]

-- place k is place i of row j
pub record IsAt (ns : List ℕ) (k : ℕ) : Type 0 where
  pub j : ℕ
  pub i : ℕ
  pub row : j < length ns
  pub inside : i < get_or ns j 0
  pub place : start ns j + i ≡ k

-- each place is in a row
pub located : (ns : List ℕ) (k : ℕ) → k < sum ns → IsAt ns k
located [] k l = absurd (omega arith)
located (n ∷ ns) k l =
    elim (cases_lt k n) [
      | inl h ↦ record { j = 0; i = k; row = omega arith; inside = h; place = omega arith }
      | inr h ↦
          let whole = sum_by-cons (λ (x : ℕ). x) n ns in
          let at = located ns (k - n) (omega arith) in
          let place = at.place in
          let row = at.row in
          let begin = sum_by-cons (λ (x : ℕ). x) n (take at.j ns) in
          record { j = suc at.j; i = at.i; row = omega arith; inside = at.inside; place = omega arith }
    ]
