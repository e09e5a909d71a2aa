-- Points off a polynomial, counted in groups: some group has none of them where fewer are off it than there are groups.
use Rattle.std.proofs.Common.{◌≡◌, ◌≢◌, ℕ, ◌+◌, ◌-◌, ◌*◌, ◌/◌, ◌<◌, ◌≤◌, not, cond, ◌==◌, List, [], ◌∷◌, length, get_or, take, drop, min, All, inl, inr, refl, sym, ap, ◌∙◌, arith}
use Rattle.std.specs.List.{sum_by}
use Rattle.std.proofs.lemmas.Bool.{cases_Bool, eqb-true, eq-eqb, ne_eqb, not_from_true, not_from_false, cases_lt}
use Rattle.std.proofs.lemmas.List.{drop-take, take-take}
use Rattle.std.proofs.lemmas.List.Elements.{All-head, All-tail}
use Rattle.std.proofs.lemmas.List.Sums.{sum_by-cons, sum_by-take-drop, sum_by-take-le, count_by_more_yes, count_by_more_no}
use Rattle.std.proofs.lemmas.Nat.{le-div}
use Rattle.gf256.specs.Polynomial.{val}
use Rattle.column_runs.specs.Close.{misses, least_misses, EachMisses}
use Rattle.column_runs.specs.OnOne.{LieOnOne}

-- of some of the points no more are off it
pub misses-take : (phi : List ℕ) (points : List (ℕ × ℕ)) (n : ℕ) → misses phi (take n points) ≤ misses phi points
unfolding misses
misses-take phi points n = sum_by-take-le (λ p. cond (not (val phi p.0 == p.1)) 1 0) points n

-- one point more
module _ (phi : List ℕ) (points : List (ℕ × ℕ)) (i v : ℕ) (l : i < length points) (value : v ≡ val phi (get_or points i (0, 0)).0) where
  -- a point that is off phi is missed
  pub misses-off : v ≢ (get_or points i (0, 0)).1 → misses phi (take (i + 1) points) ≡ misses phi (take i points) + 1
  unfolding misses
  misses-off off =
      count_by_more_yes (λ p. not (val phi p.0 == p.1)) points i (0, 0) l
      (not_from_false _ (ne_eqb _ _ (λ same. off (value ∙ same))))

  -- another is not
  pub misses-on : v ≡ (get_or points i (0, 0)).1 → misses phi (take (i + 1) points) ≡ misses phi (take i points)
  unfolding misses
  misses-on on =
      count_by_more_no (λ p. not (val phi p.0 == p.1)) points i (0, 0) l
      (not_from_true _ (eq-eqb _ _ (sym value ∙ on)))

-- the points of one group more
misses-group : (phi : List ℕ) (points : List (ℕ × ℕ)) (a b : ℕ)
    → misses phi (take (a + b) points) ≡ misses phi (take a points) + misses phi (take b (drop a points))
unfolding misses
misses-group phi points a b =
    let f : ℕ × ℕ → ℕ = λ p. cond (not (val phi p.0 == p.1)) 1 0 in
    sym (sum_by-take-drop f (take (a + b) points) a)
    ∙ ap (λ ps. sum_by f ps + sum_by f (drop a (take (a + b) points))) (take-take a (a + b) points (omega arith))
    ∙ ap (λ ps. sum_by f (take a points) + sum_by f ps) (drop-take a b points)

-- where none is off it, all lie on it
pub on-all : (phi : List ℕ) (points : List (ℕ × ℕ)) → misses phi points ≡ 0 → All (λ p. val phi p.0 ≡ p.1) points
unfolding misses
on-all phi points none = λ k d l.
    let p = get_or points k d in
    elim (cases_Bool (val phi p.0 == p.1)) [
      | inl on ↦ eqb-true (val phi p.0) p.1 on
      | inr off ↦
          let one = count_by_more_yes (λ p. not (val phi p.0 == p.1)) points k d l (not_from_false _ off) in
          let some = misses-take phi points (k + 1) in
          absurd (omega (arith, one, some, none))
    ]

-- and where all lie on it, none is off it
off-none : (phi : List ℕ) (points : List (ℕ × ℕ)) → All (λ p. val phi p.0 ≡ p.1) points → misses phi points ≡ 0
unfolding misses
off-none phi [] on = refl
off-none phi (p ∷ points) on =
    let lies : ℕ × ℕ → Type 0 = λ q. val phi q.0 ≡ q.1 in
    let first = ap {B = ℕ} (λ b. cond b 1 0) (not_from_true _ (eq-eqb _ _ (All-head lies p points on))) in
    let rest = off-none phi points (All-tail lies p points on) in
    let whole = sum_by-cons (λ q. cond (not (val phi q.0 == q.1)) 1 0) p points in
    omega (arith, first, rest, whole)

-- points of which each polynomial misses some don't all lie on one
pub apart_misses : (n : ℕ) (points : List (ℕ × ℕ)) (t : ℕ) → 0 < n → EachMisses n points t → ¬ LieOnOne points t
apart_misses n points t some each (phi, is, on) =
    let many = each phi is in
    let none = off-none phi points on in
    omega (arith, some, many, none)

-- a group of which some are off it, after groups of each of which some are
pub one_group_more : (psi : List ℕ) (points : List (ℕ × ℕ)) (group size : ℕ) → group ≤ misses psi (take (group * size) points)
    → misses psi (take size (drop (group * size) points)) ≢ 0 → group + 1 ≤ misses psi (take ((group + 1) * size) points)
one_group_more psi points group size before some =
    let both = misses-group psi points (group * size) size in
    let place : group * size + size ≡ (group + 1) * size = omega arith in
    let all = ap (λ n. misses psi (take n points)) place in
    omega (arith, before, some, both, all)

-- fewer points have no more groups
groups_of_some : (h n t : ℕ) → h ≤ n → h / (t + 1) ≤ n / (t + 1)
groups_of_some h n t l =
    let whole : h / (t + 1) * (t + 1) ≤ h = omega arith in
    le-div (h / (t + 1)) n (t + 1) (omega arith) (omega (arith, whole, l))

-- where of as many groups as there are, or as may be off, each has some that are off, so many are off
pub far : (psi : List ℕ) (points : List (ℕ × ℕ)) (t h groups : ℕ) → t < h → h ≤ length points → groups ≡ min (length points / (t + 1)) (h - t)
    → (misses psi points + t < h → groups ≤ misses psi (take (groups * (t + 1)) points)) → least_misses t h ≤ misses psi points
unfolding least_misses
far psi points t h groups more enough is each =
    elim (cases_lt (misses psi points + t) h) [
      | inl few ↦
          let some = each few in
          let all = misses-take psi points (groups * (t + 1)) in
          let fewer = groups_of_some h (length points) t enough in
          omega (arith, some, all, is, few, fewer)
      | inr many ↦ omega (arith, many)
    ]
