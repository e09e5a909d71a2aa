-- A step of the iteration in a row of polynomials side by side.
use Rattle.std.proofs.Common.{◌≡◌, ◌≢◌, ℕ, zero, suc, ◌+◌, ◌-◌, ◌*◌, ◌<◌, ◌≤◌, List, ◌++◌, length, get_or, set, take, drop, replicate, refl, sym, ap, ap₂, subst, ◌∙◌, arith, inl, inr, add-one, add-mul}
use Rattle.std.proofs.lemmas.Bool.{cases_lt}
use Rattle.std.proofs.lemmas.Grind.{get_or-set_at}
use Rattle.std.proofs.lemmas.List.{get_or-set_other, take_all, get_or_past, get_or_append_left, get_or-append_right, get_or-replicate, length-replicate}
use borrow.Rule.Slice.PartMut.{put_mid}
use Rattle.gf256.specs.Field.{◌⊕◌, ◌⊗◌}
use Rattle.gf256.proofs.Xor.{add_comm, add_zero}
use Rattle.gf256.proofs.FieldLaws.{mul_add, mul_one, zero_mul}
use Rattle.gs_interpolate.specs.Family.{multiplier, preceding, AreMultiplesAdded, IsCellStep, IsRowStep, IsReach}
use Rattle.gf256.proofs.FlatRows.{row_within}
use Rattle.gs_interpolate.proofs.Places.{part_here, part_elsewhere, part_before}

-- with its own multiple by f, a coefficient is multiplied by f + 1
pub with_own_multiple : (x f carry : ℕ) → x < 256 → (x ⊕ x ⊗ f) ⊕ carry ≡ carry ⊕ x ⊗ (f ⊕ 1)
with_own_multiple x f carry byte =
    add_comm _ carry ∙ ap (◌⊕◌ carry) (add_comm x (x ⊗ f) ∙ sym (mul_add x f 1 ∙ ap (◌⊕◌ (x ⊗ f)) (mul_one x byte)))

-- at one power of x, with the multiples added and then what was carried on to the pivot
pub cell_step : (factors now mid before : List ℕ) (p carry : ℕ) → AreMultiplesAdded factors (get_or before p 0) mid before
    → get_or now p 0 ≡ get_or mid p 0 ⊕ carry → ((g : ℕ) → g ≢ p → get_or now g 0 ≡ get_or mid g 0) → IsCellStep factors p carry now before
cell_step factors now mid before p carry added pivot others = record {
  pivot = pivot ∙ ap (λ x. x ⊕ carry) (added p);
  others = λ g o. others g o ∙ added g;
}

-- nothing yet
pub row_step-none : (factors row : List ℕ) (p : ℕ) → IsRowStep factors p row row 0
row_step-none factors row p = record {
  pivot = λ i l. absurd (omega (arith, l));
  others = λ i g l m o. absurd (omega (arith, l));
  rest = λ k l. refl;
}

-- adding no multiple changes nothing
no_multiple : (x y f : ℕ) → y ≡ 0 → x ⊕ y ⊗ f ≡ x
no_multiple x y f none = ap (λ z. x ⊕ z ⊗ f) none ∙ ap (◌⊕◌ x) (zero_mul f) ∙ add_zero x

-- the coefficient before the next one
pub preceding-next : (n p : ℕ) (row : List ℕ) (i : ℕ) → preceding n p row (i + 1) ≡ get_or row (i * n + p) 0
unfolding preceding
preceding-next n p row i = ap (preceding n p row) (add-one i)

-- where the pivot has none before, nothing is carried on
nothing_before : (n p : ℕ) (row : List ℕ) (i : ℕ) → ((k : ℕ) → k < i → get_or row (k * n + p) 0 ≡ 0) → preceding n p row i ≡ 0
unfolding preceding
nothing_before n p row zero none = refl
nothing_before n p row (suc i) none = none i (omega arith)

-- past the powers that the pivot reaches a step changes no other
past_reach : (factors before : List ℕ) (p count powers i g : ℕ) → IsReach (length factors) p before count powers → powers ≤ i → i < count
    → get_or before (i * length factors + g) 0 ≡ get_or before (i * length factors + g) 0 ⊕ get_or before (i * length factors + p) 0 ⊗ get_or factors g 0
past_reach factors before p count powers i g reach high l =
    let n = length factors in
    sym (no_multiple (get_or before (i * n + g) 0) (get_or before (i * n + p) 0) (get_or factors g 0) (reach.own i high l))

-- where the pivot reaches none, a step changes nothing
pub row_step-idle : {factors before : List ℕ} {p count powers : ℕ} → IsReach (length factors) p before count powers → powers ≡ 0
    → IsRowStep factors p before before count
unfolding preceding
row_step-idle {factors = factors} {before = before} {p = p} {count = count} {powers = powers} reach none =
    let n = length factors in
    let zero : (i : ℕ) → i < count → get_or before (i * n + p) 0 ≡ 0 = λ i l. reach.own i (omega (arith, none)) l in
    record {
      pivot = λ i l.
          zero i l ∙ sym (no_multiple (preceding n p before i) (get_or before (i * n + p) 0) (multiplier factors p) (zero i l) ∙ nothing_before n p before i (λ k h. zero k (omega (arith, h, l))));
      others = λ i g l m o. past_reach factors before p count powers i g reach (omega (arith, none)) l;
      rest = λ k l. refl;
    }

-- a step at the powers that the pivot reaches, and its last coefficient at the power behind, is one at all
pub row_step-all : {factors mid before : List ℕ} {p count powers : ℕ} → p < length factors → IsReach (length factors) p before count powers → powers ≢ 0 → powers < count
    → count * length factors ≤ length mid → IsRowStep factors p mid before powers
    → IsRowStep factors p (set mid (powers * length factors + p) (get_or before ((powers - 1) * length factors + p) 0)) before count
row_step-all {factors = factors} {mid = mid} {before = before} {p = p} {count = count} {powers = powers} inside reach some more room step =
    let n = length factors in
    let at = powers * n + p in
    let last = get_or before ((powers - 1) * n + p) 0 in
    let now = set mid at last in
    let fit = row_within powers count n more in
    let up : powers - 1 + 1 ≡ powers = omega (arith, some) in
    let carried : preceding n p before powers ≡ last = subst (λ k. preceding n p before k ≡ last) up (preceding-next n p before (powers - 1)) in
    let early : (i g : ℕ) → i < powers → g < n → get_or now (i * n + g) 0 ≡ get_or mid (i * n + g) 0 = λ i g l h.
    let before = row_within i powers n l in
    get_or-set_other mid at (i * n + g) last 0 (omega (arith, before, h)) in
    let later : (i g : ℕ) → powers < i → get_or now (i * n + g) 0 ≡ get_or before (i * n + g) 0 = λ i g l.
    let past = row_within powers i n l in
    get_or-set_other mid at (i * n + g) last 0 (omega (arith, past, inside)) ∙ step.rest (i * n + g) (omega (arith, past)) in
    record {
      pivot = λ i l. elim (cases_lt i powers) [
        | inl low ↦ early i p low inside ∙ step.pivot i low
        | inr high ↦ elim (cases_lt powers i) [
          | inl past ↦
              let i-1 : i - 1 + 1 ≡ i = omega (arith, past) in
              let none : preceding n p before i ≡ 0 =
              subst (λ k. preceding n p before k ≡ 0) i-1 (preceding-next n p before (i - 1) ∙ reach.own (i - 1) (omega (arith, past)) (omega (arith, l, i-1))) in
              later i p past ∙ reach.own i high l
              ∙ sym (ap (λ x. x ⊕ get_or before (i * n + p) 0 ⊗ multiplier factors p) none ∙ no_multiple 0 (get_or before (i * n + p) 0) (multiplier factors p) (reach.own i high l))
          | inr here ↦
              let same : powers ≡ i = omega (arith, here, high) in
              subst (λ i. get_or now (i * n + p) 0 ≡ preceding n p before i ⊕ get_or before (i * n + p) 0 ⊗ multiplier factors p) same
              (get_or-set_at mid at at last 0 refl (omega (arith, fit, inside, room)) ∙ sym carried
              ∙ sym (no_multiple (preceding n p before powers) (get_or before at 0) (multiplier factors p) (reach.own powers (omega arith) more)))
        ]
      ];
      others = λ i g l m o. elim (cases_lt i powers) [
        | inl low ↦ early i g low m ∙ step.others i g low m o
        | inr high ↦ elim (cases_lt powers i) [
          | inl past ↦ later i g past ∙ past_reach factors before p count powers i g reach high l
          | inr here ↦
              let same : powers ≡ i = omega (arith, here, high) in
              let apart : i * n + g ≢ at = let places = ap (λ k. k * n) same in omega (arith, places, o) in
              get_or-set_other mid at (i * n + g) last 0 apart
              ∙ step.rest (i * n + g) (let places = ap (λ k. k * n) same in omega (arith, places))
              ∙ past_reach factors before p count powers i g reach high l
        ]
      ];
      rest = λ k l.
          get_or-set_other mid at k last 0 (omega (arith, fit, inside, l)) ∙ step.rest k (omega (arith, fit, l));
    }

-- The part of a row with one power of x, in n lanes.
abbrev pub power_part : ℕ → ℕ → List ℕ → List ℕ
power_part n i row = take n (drop (i * n) row)

-- One more power of x: in the row the powers below x ^ i took the step, and the part with x ^ i takes it too.
pub record IsNextPower (factors row before part : List ℕ) (p carry i : ℕ) : Type 0 where
  pub inside : p < length factors
  pub long : length row ≡ length before
  pub room : i * length factors + length factors ≤ length before
  pub done : IsRowStep factors p row before i
  pub carried : carry ≡ preceding (length factors) p before i
  pub byte : get_or (power_part (length factors) i row) p 0 < 256
  pub size : length part ≡ length factors
  pub step : IsCellStep factors p carry part (power_part (length factors) i row)

module _ {factors row before part : List ℕ} {p carry i : ℕ} (next : IsNextPower factors row before part p carry i) where
  -- the row is as long
  room_now : i * length factors + length factors ≤ length row
  room_now = let room = next.room in let long = next.long in omega (arith, room, long)

  -- what the part held
  held : (g : ℕ) → g < length factors → get_or (power_part (length factors) i row) g 0 ≡ get_or before (i * length factors + g) 0
  held g l =
      let done = next.done in
      part_before row (i * length factors) (length factors) g l ∙ done.rest (i * length factors + g) (omega arith)

  -- what it is multiplied by
  own : get_or part p 0 ≡ carry ⊕ get_or (power_part (length factors) i row) p 0 ⊗ multiplier factors p
  own =
      let step = next.step in
      step.pivot ∙ with_own_multiple (get_or (power_part (length factors) i row) p 0) (get_or factors p 0) carry next.byte

  -- what is here now
  here : (g : ℕ) → g < length factors → get_or (put_mid (i * length factors) (length factors) row part) (i * length factors + g) 0 ≡ get_or part g 0
  here g l = part_here row part (i * length factors) (length factors) g room_now next.size l

  -- the earlier powers
  earlier : (k g : ℕ) → k < i → g < length factors
      → get_or (put_mid (i * length factors) (length factors) row part) (k * length factors + g) 0 ≡ get_or row (k * length factors + g) 0
  earlier k g l m =
      let n = length factors in
      let fit = row_within k i n l in
      part_elsewhere row part (i * n) n (k * n + g) room_now next.size (inl (omega (arith, fit, m)))

  -- the step at one power more
  pub row_step-next : IsRowStep factors p (put_mid (i * length factors) (length factors) row part) before (i + 1)
  row_step-next =
      let n = length factors in
      let now = put_mid (i * n) n row part in
      let done = next.done in
      let step = next.step in
      record {
        pivot = λ k l.
            elim (cases_lt k i) [
              | inl m ↦ earlier k p m next.inside ∙ done.pivot k m
              | inr m ↦
                  let same : i ≡ k = omega (arith, l, m) in
                  subst (λ k. get_or now (k * n + p) 0 ≡ preceding n p before k ⊕ get_or before (k * n + p) 0 ⊗ multiplier factors p) same
                  (here p next.inside ∙ own ∙ ap₂ (λ x y. x ⊕ y ⊗ multiplier factors p) next.carried (held p next.inside))
            ];
        others = λ k g l m o.
            elim (cases_lt k i) [
              | inl h ↦ earlier k g h m ∙ done.others k g h m o
              | inr h ↦
                  let same : i ≡ k = omega (arith, l, h) in
                  subst (λ k. get_or now (k * n + g) 0 ≡ get_or before (k * n + g) 0 ⊕ get_or before (k * n + p) 0 ⊗ get_or factors g 0) same
                  (here g m ∙ step.others g o ∙ ap₂ (λ x y. x ⊕ y ⊗ get_or factors g 0) (held g m) (held p next.inside))
            ];
        rest = λ k l.
            let more = add-mul i 1 n in
            part_elsewhere row part (i * n) n k room_now next.size (inr (omega (arith, l, more))) ∙ done.rest k (omega (arith, l, more));
      }

  -- what is carried on
  pub carried_on : get_or (power_part (length factors) i row) p 0 ≡ preceding (length factors) p before (i + 1)
  carried_on = held p next.inside ∙ sym (preceding-next (length factors) p before i)

-- A step in one row, in n lanes, in which the pivot is multiplied by x - a.
module _ {factors now before : List ℕ} {p count : ℕ} (n a : ℕ) (step : IsRowStep factors p now before count) (lanes : length factors ≡ n) where
  -- the pivot
  pub row-pivot : multiplier factors p ≡ a → (i : ℕ) → i < count
      → get_or now (i * n + p) 0 ≡ preceding n p before i ⊕ get_or before (i * n + p) 0 ⊗ a
  row-pivot own i l =
      subst (λ a. get_or now (i * n + p) 0 ≡ preceding n p before i ⊕ get_or before (i * n + p) 0 ⊗ a) own
      (subst (λ n. get_or now (i * n + p) 0 ≡ preceding n p before i ⊕ get_or before (i * n + p) 0 ⊗ multiplier factors p) lanes (step.pivot i l))

-- The others, and what is past the powers of x, do not look at a.
module _ {factors now before : List ℕ} {p count : ℕ} (n : ℕ) (step : IsRowStep factors p now before count) (lanes : length factors ≡ n) where
  -- another
  pub row-others : (i g : ℕ) → i < count → g < n → g ≢ p
      → get_or now (i * n + g) 0 ≡ get_or before (i * n + g) 0 ⊕ get_or before (i * n + p) 0 ⊗ get_or factors g 0
  row-others i g l m o =
      subst (λ n. get_or now (i * n + g) 0 ≡ get_or before (i * n + g) 0 ⊕ get_or before (i * n + p) 0 ⊗ get_or factors g 0) lanes
      (step.others i g l (omega (arith, m, lanes)) o)

  -- past the powers
  pub row-rest : (k : ℕ) → count * n ≤ k → get_or now k 0 ≡ get_or before k 0
  row-rest k l = step.rest k (let same = ap (λ n. count * n) lanes in omega (arith, l, same))

-- zeros alone
pub zeros : (k j : ℕ) → get_or (replicate {A = ℕ} k 0) j 0 ≡ 0
zeros k j =
    elim (cases_lt j k) [
      | inl l ↦ get_or-replicate k j 0 0 l
      | inr l ↦ get_or_past (replicate {A = ℕ} k 0) j 0 (let s = length-replicate {A = ℕ} k 0 in omega (arith, s, l))
    ]

-- zeros at the end
longer : (row : List ℕ) (k j : ℕ) → get_or (row ++ replicate k 0) j 0 ≡ get_or row j 0
longer row k j =
    elim (cases_lt j (length row)) [
      | inl l ↦ get_or_append_left row (replicate k 0) 0 j l
      | inr l ↦ get_or-append_right row (replicate k 0) (length row) j 0 refl l ∙ zeros k (j - length row) ∙ sym (get_or_past row j 0 l)
    ]

-- nor do they change what comes before a coefficient
preceding-longer : (n p k : ℕ) (row : List ℕ) (i : ℕ) → preceding n p (row ++ replicate k 0) i ≡ preceding n p row i
unfolding preceding
preceding-longer n p k row zero = refl
preceding-longer n p k row (suc i) = longer row k (i * n + p)

-- zeros at the end of the row before change nothing
pub row_step-longer : (factors : List ℕ) (p : ℕ) (made before : List ℕ) (count k : ℕ)
    → IsRowStep factors p made (before ++ replicate k 0) count → IsRowStep factors p made before count
row_step-longer factors p made before count k step =
    let n = length factors in
    record {
      pivot = λ i l.
          step.pivot i l
          ∙ ap₂ (λ x y. x ⊕ y ⊗ multiplier factors p) (preceding-longer n p k before i) (longer before k (i * n + p));
      others = λ i g l h o.
          step.others i g l h o
          ∙ ap₂ (λ x y. x ⊕ y ⊗ get_or factors g 0) (longer before k (i * n + g)) (longer before k (i * n + p));
      rest = λ j l. step.rest j l ∙ longer before k j;
    }

-- a list that was made longer by zeros
pub resized : (old new : List ℕ) (n len missing : ℕ) → len ≡ length old → new ≡ take n old ++ replicate (n - len) 0 → n ≡ len + missing → new ≡ old ++ replicate missing 0
resized old new n len missing size is long =
    is ∙ ap₂ ◌++◌ (take_all n old (omega (arith, size, long))) (ap (λ k. replicate k 0) (let e : n - len ≡ missing = omega (arith, long) in e))
