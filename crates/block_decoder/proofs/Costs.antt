-- Fewer points cost no more.
use Rattle.std.proofs.Common.{◌≡◌, ◌≢◌, ◌⊎◌, ℕ, ◌+◌, ◌*◌, ◌-◌, ◌/◌, ◌<◌, ◌≤◌, List, length, refl, arith, mul-le-mul_left}
use Rattle.std.proofs.Math.Nat.{mul-le-mul_right, div-mul-le_self}
use Rattle.std.proofs.lemmas.Nat.{le-div}
use Rattle.column_lists.specs.declared.TheConstants.{MOST_COST}
use Rattle.column_lists.specs.Numbers.{mult, cost, degree_of}
use Rattle.wire_frames.specs.Answer.{Answer}
use Rattle.block_decoder.specs.Narrowing.{CanBeListed, IsPart}
use Rattle.block_decoder.specs.Numbers.{column_nodes}
use Rattle.block_decoder.specs.Verdict.{IsUnlisted}
use Rattle.block_decoder.proofs.Kept.{part-few, part-All, part-different}

-- with no step, the steps are what they were
pub no_steps : (columns nodes : ℕ) → (columns ≡ columns) × (nodes ≡ nodes)
no_steps columns nodes = (refl, refl)

-- where answers can be listed, they are not refused
pub not_unlisted : (k t h : ℕ) → (h ≤ k) × (k * t < h * h) × (cost k t h ≤ MOST_COST) → ¬ IsUnlisted k t h
not_unlisted k t h is none = apart h k (k * t) (h * h) (cost k t h) is none
  where
    apart : (h k weak strong costs : ℕ) → (h ≤ k) × (weak < strong) × (costs ≤ MOST_COST)
        → ¬ ((k < h) ⊎ (strong ≤ weak) ⊎ (MOST_COST < costs))
    apart h k weak strong costs is none = omega (arith, is, none)

-- a smaller number has no greater quotient by a greater divisor
quotients : (x y c d : ℕ) → 0 < d → d ≤ c → x ≤ y → x / c ≤ y / d
quotients x y c d some greater l =
    let a = div-mul-le_self x c in
    let b = mul-le-mul_left (x / c) greater in
    le-div (x / c) y d some (omega (arith, a, b, l))

-- fewer points have no greater multiplicity
mult-le : (j k t h : ℕ) → j ≤ k → k * t < h * h → mult j t h ≤ mult k t h
unfolding mult
mult-le j k t h l strong =
    let e : j - h ≤ k - h = omega (arith, l) in
    let a = mul-le-mul_left t e in
    let b = mul-le-mul_right t l in
    let q = quotients (t * (j - h)) (t * (k - h)) (h * h - j * t) (h * h - k * t) (omega (arith, strong)) (omega (arith, b)) a in
    omega (arith, q)

-- and take no more nodes
pub nodes-le : (j k t h : ℕ) → j ≤ k → 1 ≤ t → k * t < h * h → column_nodes j t h ≤ column_nodes k t h
nodes-le j k t h l some strong =
    let m = mul-le-mul_left h (mult-le j k t h l strong) in
    let d : degree_of j t h ≤ degree_of k t h = omega (arith, m) in
    mul-le-mul_left (t + 1) (quotients (degree_of j t h) (degree_of k t h) t t (omega (arith, some)) (omega arith) d)

-- fewer points of a smaller multiplicity are fewer equations
equations-le : (j k m n : ℕ) → j ≤ k → m ≤ n → j * m * (m + 1) / 2 ≤ k * n * (n + 1) / 2
equations-le j k m n few small =
    let a = mul-le-mul_left j small in
    let b = mul-le-mul_right n few in
    let c : j * m ≤ k * n = omega (arith, a, b) in
    let d = mul-le-mul_right (m + 1) c in
    let e = mul-le-mul_left (k * n) small in
    let f : j * m * (m + 1) ≤ k * n * (n + 1) = omega (arith, d, e) in
    omega (arith, f)

-- and cost no more
pub cost-le : (j k t h : ℕ) → j ≤ k → k * t < h * h → cost j t h ≤ cost k t h
cost-le j k t h l strong = equations-le j k (mult j t h) (mult k t h) l (mult-le j k t h l strong)

-- ---- some of the answers

module _ (answers part : List Answer) (t h : ℕ) (is : IsPart answers part) (all : CanBeListed answers t h) where
  -- their columns can be list decoded where those of all can
  pub part-listed : CanBeListed part t h
  part-listed =
      let few = part-few answers part is in
      let most = all.few in
      let product = mul-le-mul_right t few in
      let strong = all.strong in
      let cost = cost-le (length part) (length answers) t h few strong in
      let cheap = all.cheap in
      record {
        different = part-different answers part is all.different;
        nonzero = part-All answers part is (λ a. a.index ≢ 0) all.nonzero;
        few = omega (arith, few, most);
        some = all.some;
        redundant = all.redundant;
        strong = omega (arith, product, strong);
        cheap = omega (arith, cost, cheap);
      }

  -- and take no more nodes
  pub part-nodes : (old new : ℕ) → new ≤ old + column_nodes (length part) t h → new ≤ old + column_nodes (length answers) t h
  part-nodes old new l =
      let most = nodes-le (length part) (length answers) t h (part-few answers part is) all.some all.strong in
      omega (arith, l, most)
