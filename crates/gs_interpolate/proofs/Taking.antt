-- The steps that rows take, one after the other.
use Rattle.std.proofs.Common.{◌≡◌, ℕ, zero, suc, ◌+◌, ◌*◌, ◌<◌, List, [], ◌∷◌, length, refl, sym, ap, subst, ◌∙◌, arith, add-one}
use Rattle.std.proofs.lemmas.List.{ext_get_or}
use Rattle.bi_poly.specs.Rows.{row}
use Rattle.gs_interpolate.specs.Family.{IsFamilyStep}
use Rattle.gs_interpolate.specs.Steps.{KeptStep, step_at, HaveTaken, TookStep, TookSteps}

-- a row that took no step yet
pub took-none : (steps : List KeptStep) (weight : ℕ) (r : List ℕ) → TookSteps steps weight 0 r r
unfolding TookSteps
took-none steps weight r = refl

-- one step more
pub took-next : (steps : List KeptStep) (weight k : ℕ) (now mid before : List ℕ) → TookSteps steps weight k mid before
    → TookStep (step_at steps k) weight now mid → TookSteps steps weight (k + 1) now before
unfolding TookSteps
took-next steps weight k now mid before done step =
    subst (λ i. TookSteps steps weight i now before) (sym (add-one k)) (mid, done, step)

-- and one less
took-last : (steps : List KeptStep) (weight k : ℕ) (now before : List ℕ) → TookSteps steps weight (k + 1) now before
    → (mid : List ℕ) × TookSteps steps weight k mid before × TookStep (step_at steps k) weight now mid
unfolding TookSteps
took-last steps weight k now before done = subst (λ i. TookSteps steps weight i now before) (add-one k) done

-- the steps before place k alone count
pub took-alike : (steps others : List KeptStep) (weight k : ℕ) → ((i : ℕ) → i < k → step_at steps i ≡ step_at others i)
    → (now before : List ℕ) → TookSteps steps weight k now before → TookSteps others weight k now before
unfolding TookSteps
took-alike steps others weight zero alike now before done = done
took-alike steps others weight (suc k) alike now before done = (
  done.0,
  took-alike steps others weight k (λ i l. alike i (omega (arith, l))) done.0 before done.1,
  subst (λ s. TookStep s weight now done.0) (alike k (omega arith)) done.2,
)

-- so they do for all rows
pub taken-alike : (steps others : List KeptStep) (t k : ℕ) (now before : List (List ℕ))
    → ((i : ℕ) → i < k → step_at steps i ≡ step_at others i) → HaveTaken steps t k now before → HaveTaken others t k now before
taken-alike steps others t k now before alike done = record {
  size = done.size;
  each = λ j l. took-alike steps others (t * j) k alike (row now j) (row before j) (done.each j l);
}

-- rows that took none are the same
pub taken-none : (steps : List KeptStep) (t : ℕ) (now before : List (List ℕ)) → HaveTaken steps t 0 now before → now ≡ before
unfolding TookSteps
taken-none steps t now before done =
    ext_get_or [] now before done.size (λ j l. done.each j (let size = done.size in omega (arith, size, l)))

-- one row and others
first_and_others : (P : ℕ → List ℕ → Type 0) (r : List ℕ) (rows : List (List ℕ)) (n : ℕ) → P 0 r
    → ((j : ℕ) → j < n → P (suc j) (row rows j)) → (j : ℕ) → j < suc n → P j (row (r ∷ rows) j)
first_and_others P r rows n first others zero l = first
first_and_others P r rows n first others (suc j) l = others j (omega (arith, l))

-- where there is a row for each place, there are rows
chosen : (n : ℕ) (P : ℕ → List ℕ → Type 0) → ((j : ℕ) → j < n → (r : List ℕ) × P j r)
    → (rows : List (List ℕ)) × (length rows ≡ n) × ((j : ℕ) → j < n → P j (row rows j))
chosen zero P each = ([], refl, λ j l. absurd (omega (arith, l)))
chosen (suc n) P each =
    let first = each 0 (omega arith) in
    let others = chosen n (λ j. P (suc j)) (λ j l. each (suc j) (omega (arith, l))) in
    (first.0 ∷ others.0, ap suc others.1, first_and_others P first.0 others.0 n first.1 others.2)

-- before the last step of k + 1 there were rows that had taken k
pub rows-between : (steps : List KeptStep) (t k : ℕ) (now before : List (List ℕ)) → HaveTaken steps t (k + 1) now before
    → (mid : List (List ℕ)) × HaveTaken steps t k mid before
    × IsFamilyStep (step_at steps k).factors (step_at steps k).p t (step_at steps k).reach now mid
rows-between steps t k now before done =
    let P : ℕ → List ℕ → Type 0 = λ j r. TookSteps steps (t * j) k r (row before j) × TookStep (step_at steps k) (t * j) (row now j) r in
    let mid = chosen (length before) P (λ j l.
    let last = took-last steps (t * j) k (row now j) (row before j) (done.each j l) in
    (last.0, (last.1, last.2))) in
    let inside : (j : ℕ) → j < length mid.0 → j < length before = λ j l. let size = mid.1 in omega (arith, size, l) in (
      mid.0,
      record { size = mid.1; each = λ j l. (mid.2 j l).0 },
      record {
        size = done.size ∙ sym mid.1;
        each = λ j l. let last = (mid.2 j (inside j l)).1 in last.changed;
        whole = λ j l. let last = (mid.2 j (inside j l)).1 in last.whole;
      },
    )
