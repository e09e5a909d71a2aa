-- Sums over runs of rows.
use Rattle.std.proofs.Common.{◌≡◌, ℕ, ◌+◌, ◌-◌, ◌*◌, ◌/◌, ◌≤◌, ◌<◌, List, [], get_or, sym, ap, ap₂, ◌∙◌, arith}
use Rattle.gf256.specs.Field.{◌⊕◌}
use Rattle.gf256.specs.Product.{IsMatrix}
use Rattle.gf256.specs.Sums.{run_sum}
use Rattle.gf256.proofs.Xor.{add_assoc, add_zero, add_swap}
use Rattle.gf256.proofs.RunSums.{run-zero, run-join, run-next}
use Rattle.chor_xor.specs.Bitmap.{bit_of}
use Rattle.chor_xor.specs.Chosen.{given}
use Rattle.chor_xor.proofs.ChosenSums.{given-chosen, given-left}
use Rattle.chor_xor.proofs.FourSums.{four_at}

-- a run of rows whose bits aren't set
pub run-left : (bitmap : List ℕ) (rows : List (List ℕ)) (c from to : ℕ) → ((j : ℕ) → from ≤ j → j < to → bit_of bitmap j ≡ 0)
    → run_sum (given bitmap rows c) from to ≡ 0
run-left bitmap rows c from to none = run-zero (given bitmap rows c) from to (λ j l m. given-left bitmap rows c j (none j l m))

-- one more row whose bit is set, and then some whose bits aren't
pub run-step : (bitmap row : List ℕ) (rows : List (List ℕ)) (r s c from j next : ℕ) → IsMatrix rows r s → j < r → from ≤ j → j + 1 ≤ next
    → bit_of bitmap j ≡ 1 → row ≡ get_or rows j [] → ((i : ℕ) → j + 1 ≤ i → i < next → bit_of bitmap i ≡ 0)
    → run_sum (given bitmap rows c) from next ≡ run_sum (given bitmap rows c) from j ⊕ get_or row c 0
run-step bitmap row rows r s c from j next is l le lt bit e none =
    sym (run-join (given bitmap rows c) from (j + 1) next (omega arith) lt)
    ∙ ap₂ ◌⊕◌ (run-next (given bitmap rows c) from j le) (run-left bitmap rows c (j + 1) next none)
    ∙ add_zero _
    ∙ ap (◌⊕◌ (run_sum (given bitmap rows c) from j)) (sym (given-chosen bitmap row rows r s c j is l bit e))

-- the rows of the four quarters that are added, up to one place in each; the last takes the rows
-- that are left over
unfoldable pub quarters : List ℕ → List (List ℕ) → ℕ → ℕ → ℕ → ℕ → ℕ → ℕ → ℕ → ℕ
quarters bitmap rows k from quarter a b c d =
    run_sum (given bitmap rows k) from a ⊕ run_sum (given bitmap rows k) (from + quarter) b
    ⊕ run_sum (given bitmap rows k) (from + 2 * quarter) c ⊕ run_sum (given bitmap rows k) (from + 3 * quarter) d

-- four sums of two as two sums of four
in_pairs : (a b c d w x y z : ℕ) → (a ⊕ w) ⊕ (b ⊕ x) ⊕ (c ⊕ y) ⊕ (d ⊕ z) ≡ (a ⊕ b ⊕ c ⊕ d) ⊕ (w ⊕ x ⊕ y ⊕ z)
in_pairs a b c d w x y z =
    ap (λ s. s ⊕ (c ⊕ y) ⊕ (d ⊕ z)) (add_swap a w b x)
    ∙ ap (λ s. s ⊕ (d ⊕ z)) (add_swap (a ⊕ b) (w ⊕ x) c y)
    ∙ add_swap (a ⊕ b ⊕ c) (w ⊕ x ⊕ y) d z

-- no rows yet, where those before the places have no bits
pub quarters-none : (bitmap : List ℕ) (rows : List (List ℕ)) (k from quarter a b c d : ℕ)
    → ((j : ℕ) → from ≤ j → j < a → bit_of bitmap j ≡ 0) → ((j : ℕ) → from + quarter ≤ j → j < b → bit_of bitmap j ≡ 0)
    → ((j : ℕ) → from + 2 * quarter ≤ j → j < c → bit_of bitmap j ≡ 0) → ((j : ℕ) → from + 3 * quarter ≤ j → j < d → bit_of bitmap j ≡ 0)
    → quarters bitmap rows k from quarter a b c d ≡ 0
unfolding quarters
quarters-none bitmap rows k from quarter a b c d na nb nc nd =
    let left = run-left bitmap rows k in
    ap₂ ◌⊕◌ (ap₂ ◌⊕◌ (ap₂ ◌⊕◌ (left from a na) (left (from + quarter) b nb)) (left (from + 2 * quarter) c nc)) (left (from + 3 * quarter) d nd)
    ∙ (let e : 0 ⊕ 0 ⊕ 0 ⊕ 0 ≡ 0 = simp add_zero in e)

-- row j of a quarter that begins with row `from` is read, and the next of its rows whose bit is set
-- is `next`, if there is one
pub record IsStep (bitmap row : List ℕ) (rows : List (List ℕ)) (from j next : ℕ) : Type 0 where
  pub begun : from ≤ j
  pub on : j + 1 ≤ next
  pub set : bit_of bitmap j ≡ 1
  pub is : row ≡ get_or rows j []
  pub others : (i : ℕ) → j + 1 ≤ i → i < next → bit_of bitmap i ≡ 0

-- one more row of each
pub quarters-next : (bitmap : List ℕ) (rows : List (List ℕ)) (r s k from quarter a b c d a2 b2 c2 d2 : ℕ) (ra rb rc rd : List ℕ)
    → IsMatrix rows r s → a < r → b < r → c < r → d < r
    → IsStep bitmap ra rows from a a2 → IsStep bitmap rb rows (from + quarter) b b2
    → IsStep bitmap rc rows (from + 2 * quarter) c c2 → IsStep bitmap rd rows (from + 3 * quarter) d d2
    → quarters bitmap rows k from quarter a2 b2 c2 d2 ≡ quarters bitmap rows k from quarter a b c d ⊕ four_at ra rb rc rd k
unfolding quarters four_at
quarters-next bitmap rows r s k from quarter a b c d a2 b2 c2 d2 ra rb rc rd is la lb lc ld sa sb sc sd =
    ap₂ ◌⊕◌ (ap₂ ◌⊕◌ (ap₂ ◌⊕◌ (step ra from a a2 la sa) (step rb (from + quarter) b b2 lb sb)) (step rc (from + 2 * quarter) c c2 lc sc)) (step rd (from + 3 * quarter) d d2 ld sd)
    ∙ in_pairs _ _ _ _ _ _ _ _
  where
    step : (row : List ℕ) (from j next : ℕ) → j < r → IsStep bitmap row rows from j next
        → run_sum (given bitmap rows k) from next ≡ run_sum (given bitmap rows k) from j ⊕ get_or row k 0
    step row from j next l st = run-step bitmap row rows r s k from j next is l st.begun st.on st.set st.is st.others

-- the rest of each
with_rests : (a b c d w x y z : ℕ) → (a ⊕ b ⊕ c ⊕ d) ⊕ w ⊕ x ⊕ y ⊕ z ≡ (a ⊕ w) ⊕ (b ⊕ x) ⊕ (c ⊕ y) ⊕ (d ⊕ z)
with_rests a b c d w x y z = together (a ⊕ b ⊕ c ⊕ d) w x y z ∙ sym (in_pairs a b c d w x y z)
  where
    together : (s w x y z : ℕ) → s ⊕ w ⊕ x ⊕ y ⊕ z ≡ s ⊕ (w ⊕ x ⊕ y ⊕ z)
    together s w x y z = simp add_assoc

-- the quarters and their rests are the whole run
pub quarters-all : (bitmap : List ℕ) (rows : List (List ℕ)) (k from to quarter a b c d : ℕ) → from ≤ to → quarter ≡ (to - from) / 4
    → from ≤ a → a ≤ from + quarter → from + quarter ≤ b → b ≤ from + 2 * quarter → from + 2 * quarter ≤ c → c ≤ from + 3 * quarter → from + 3 * quarter ≤ d → d ≤ to
    → quarters bitmap rows k from quarter a b c d ⊕ run_sum (given bitmap rows k) a (from + quarter) ⊕ run_sum (given bitmap rows k) b (from + 2 * quarter)
    ⊕ run_sum (given bitmap rows k) c (from + 3 * quarter) ⊕ run_sum (given bitmap rows k) d to ≡ run_sum (given bitmap rows k) from to
unfolding quarters
quarters-all bitmap rows k from to quarter a b c d le q la ma lb mb lc mc ld md =
    let f = given bitmap rows k in
    let R = run_sum f in
    let p1 = from + quarter in
    let p2 = from + 2 * quarter in
    let p3 = from + 3 * quarter in
    with_rests (R from a) (R p1 b) (R p2 c) (R p3 d) (R a p1) (R b p2) (R c p3) (R d to)
    ∙ ap₂ ◌⊕◌ (ap₂ ◌⊕◌ (ap₂ ◌⊕◌ (run-join f from a p1 la ma) (run-join f p1 b p2 lb mb)) (run-join f p2 c p3 lc mc)) (run-join f p3 d to ld md)
    ∙ ap (λ s. s ⊕ R p2 p3 ⊕ R p3 to) (run-join f from p1 p2 (omega arith) (omega arith))
    ∙ ap (λ s. s ⊕ R p3 to) (run-join f from p2 p3 (omega arith) (omega arith))
    ∙ run-join f from p3 to (omega arith) (omega arith)
