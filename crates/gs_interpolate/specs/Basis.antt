-- The polynomials of Koetter's iteration (Koetter 1996): their leading monomials in the weighted order, and what the
-- iteration does to them. They stand side by side, each in a lane.
use Rattle.std.specs.Prelude.{◌≡◌, ◌≢◌, ◌⊎◌, Bool, ℕ, suc, ◌+◌, ◌*◌, ◌<◌, ◌≤◌, List, length, min, sum, slice_index, slice_set}
use Rattle.gf256.specs.Field.{◌⊕◌, ◌⊗◌, inverse}
use Rattle.bi_poly.specs.Rows.{row, cell, AreBytes}
use Rattle.bi_poly.specs.Hasse.{hasse, HasZero}
use Rattle.gs_interpolate.specs.Family.{member, AreWhole}
use Rattle.gs_interpolate.specs.Steps.{KeptStep, HaveTakenAll, TakeIf}
use Rattle.gs_interpolate.specs.Window.{Derivatives, derivative}
use Rattle.gs_interpolate.specs.declared.condition.Condition.{Condition}
use Rattle.gs_interpolate.specs.declared.basis.TheConstants.{MOST_PLACES, MOST_LANES}
use Rattle.quantity_limits.specs.declared.TheConstants.{MOST_DEGREE}
use Rattle.interpolation.specs.Monomials.{conditions}

-- polynomials side by side, in lanes and rows. They are weighed so that x ^ i * y ^ j weighs i + t * j, those that weigh at most
-- d are light, and the exponent e at place j says that the polynomial at place j is led by x ^ e * y ^ j
pub record Polynomials : Type 0 where
  pub t : ℕ
  pub d : ℕ
  pub lanes : ℕ
  pub rows : List (List ℕ)
  pub exponents : List ℕ

-- there are some, no more than lanes, each with an exponent, and all is as small as in any interpolation
pub record IsInRange (s : Polynomials) : Type 0 where
  pub weight : s.t ≤ MOST_DEGREE
  pub width : s.lanes ≤ MOST_LANES
  pub places : length s.rows ≤ MOST_PLACES
  pub some : 0 < length s.rows
  pub wide : length s.rows ≤ s.lanes
  pub size : length s.exponents ≡ length s.rows

-- s with other rows and exponents
abbrev pub with_rows : Polynomials → List (List ℕ) → List ℕ → Polynomials
with_rows s rows exponents = record s { rows = rows; exponents = exponents }

-- the polynomial at place j
abbrev pub polynomial : Polynomials → ℕ → List (List ℕ)
polynomial s j = member s.lanes s.rows j

-- its weight, that of its leading monomial
abbrev pub weight : Polynomials → ℕ → ℕ
weight s j = slice_index s.exponents j + s.t * j

-- it weighs at most d. Those that weigh more are dropped, and nothing is said of them
abbrev pub IsLight : Polynomials → ℕ → Type 0
IsLight s j = weight s j ≤ s.d

-- x ^ i * y ^ j stands before x ^ k * y ^ l in the (1, t)-weighted order: its weight is less, or it is the same and the
-- degree in y is less
abbrev pub IsBefore : ℕ → ℕ → ℕ → ℕ → ℕ → Type 0
IsBefore t i j k l = (i + t * j < k + t * l) ⊎ ((i + t * j ≡ k + t * l) × (j < l))

-- the leading monomial of the polynomial at place j stands before that of the one at place k
abbrev pub LeadsBefore : Polynomials → ℕ → ℕ → Type 0
LeadsBefore s j k = IsBefore s.t (slice_index s.exponents j) j (slice_index s.exponents k) k

-- the leading monomial of q, the last in that order with a coefficient that is not 0, is x ^ e * y ^ j
pub record Leads (t : ℕ) (q : List (List ℕ)) (e j : ℕ) : Type 0 where
  pub reached : cell q j e ≢ 0
  pub last : (k i : ℕ) → IsBefore t e j i k → cell q k i ≡ 0

-- q is led by x ^ e * y ^ j, and its coefficients are bytes
pub record IsLed (t : ℕ) (q : List (List ℕ)) (e j : ℕ) : Type 0 where
  pub bytes : AreBytes q
  pub leads : Leads t q e j

-- of the polynomials, as many as there are rows, each light one is led by x ^ e * y ^ j, with its place j and its exponent e
pub record IsBasis (s : Polynomials) : Type 0 where
  pub size : length s.exponents ≡ length s.rows
  pub wide : length s.rows ≤ s.lanes
  pub whole : AreWhole s.lanes s.rows
  pub each : (j : ℕ) → j < length s.rows → IsLight s j → IsLed s.t (polynomial s j) (slice_index s.exponents j) j

-- s are the first n powers of y, weighed by t and d
pub record ArePowersOfY (t d n : ℕ) (s : Polynomials) : Type 0 where
  pub weight : s.t ≡ t
  pub degree : s.d ≡ d
  pub size : length s.rows ≡ n
  pub basis : IsBasis s
  pub exponents : sum s.exponents ≡ 0

-- from row v on, the cells of a window are derivatives of the light polynomials: cell u of row k has those of order (u, k),
-- where u + k < m
pub record IsLightWindow (s : Polynomials) (w : Derivatives) (v : ℕ) : Type 0 where
  pub lanes : w.lanes ≡ s.lanes
  pub each : (u k g : ℕ) → v ≤ k → u + k < w.m → g < length s.rows → IsLight s g
      → derivative w u k g ≡ hasse (polynomial s g) u k w.a w.b

-- the value of the polynomial at place j is the derivative that the condition asks to be 0
abbrev pub IsValue : Polynomials → Condition → List ℕ → ℕ → Type 0
IsValue s c values j = slice_index values j ≡ hasse (polynomial s j) c.u c.v c.a c.b

-- the values of the light polynomials are those derivatives
abbrev pub AreValues : Polynomials → Condition → List ℕ → Type 0
AreValues s c values = (j : ℕ) → j < length s.rows → IsLight s j → IsValue s c values j

-- all values are 0
abbrev pub AreZero : List ℕ → Type 0
AreZero values = (j : ℕ) → slice_index values j ≡ 0

-- those of the light polynomials are
abbrev pub AreZeroWhereLight : Polynomials → List ℕ → Type 0
AreZeroWhereLight s values = (j : ℕ) → j < length s.rows → IsLight s j → slice_index values j ≡ 0

-- p is the first place of the list that is not 0
pub record IsFirstNonzero (values : List ℕ) (p : ℕ) : Type 0 where
  pub inside : p < length values
  pub fails : slice_index values p ≢ 0
  pub before : (j : ℕ) → j < p → slice_index values j ≡ 0

-- of the polynomials whose value is not 0, that at place p has the first leading monomial in the weighted order
pub record IsFirstFailing (s : Polynomials) (values : List ℕ) (p : ℕ) : Type 0 where
  pub inside : p < length s.rows
  pub fails : slice_index values p ≢ 0
  pub first : (j : ℕ) → j < length s.rows → slice_index values j ≢ 0 → j ≢ p → LeadsBefore s p j

-- and it is light, so that it is the first of the light ones too
pub record IsPivot (s : Polynomials) (values : List ℕ) (p : ℕ) : Type 0 where
  pub light : IsLight s p
  pub first : IsFirstFailing s values p

-- what was `before` is now with that multiple of the pivot
abbrev pub IsWithMultiple : List (List ℕ) → List (List ℕ) → List (List ℕ) → ℕ → Type 0
IsWithMultiple now before pivot factor = (j i : ℕ) → cell now j i ≡ cell before j i ⊕ factor ⊗ cell pivot j i

-- what was `before` is now multiplied by x - a
pub record IsRaised (now before : List (List ℕ)) (a : ℕ) : Type 0 where
  pub first : (j : ℕ) → cell now j 0 ≡ cell before j 0 ⊗ a
  pub later : (j i : ℕ) → cell now j (suc i) ≡ cell before j i ⊕ cell before j (suc i) ⊗ a

-- the multiple of the pivot's value that is another value
abbrev pub factor : List ℕ → ℕ → ℕ → ℕ
factor values p j = slice_index values j ⊗ inverse (slice_index values p)

-- how many monomials of a row a step with the pivot p can change, where y ^ 0 stands in it: past those the pivot has no
-- coefficient, nor would it need one
abbrev pub reach : Polynomials → ℕ → ℕ
reach s p = min (weight s p + 1) s.d + 1

-- the exponents, where that at place p rises by one
abbrev pub raised_at : List ℕ → ℕ → List ℕ
raised_at exponents p = slice_set exponents p (slice_index exponents p + 1)

-- the step takes the values away with the pivot p, at weights below some reach. The pivot's own factor is 1 so far
pub record IsAimed (values : List ℕ) (p below : ℕ) (step : KeptStep) : Type 0 where
  pub size : length step.factors ≡ length values
  pub place : step.p ≡ p
  pub reach : step.reach ≡ below
  pub own : slice_index step.factors p ≡ 1
  pub others : (j : ℕ) → j ≢ p → slice_index step.factors j ≡ factor values p j

-- each row took all the steps, and nothing else changed
pub record TakesSteps (steps : List KeptStep) (s made : Polynomials) : Type 0 where
  pub alike : made ≡ with_rows s made.rows s.exponents
  pub rows : HaveTakenAll steps s.t made.rows s.rows

-- a step with the pivot p: multiples of it take the values of the other light ones away, and it is multiplied by x - a
-- itself, if it is light then
pub record IsStep (s made : Polynomials) (values : List ℕ) (a p : ℕ) : Type 0 where
  pub size : length made.rows ≡ length s.rows
  pub whole : AreWhole s.lanes made.rows
  pub exponents : made.exponents ≡ raised_at s.exponents p
  pub pivot : IsLight made p → IsRaised (polynomial made p) (polynomial s p) a
  pub others : (j : ℕ) → j < length s.rows → j ≢ p → IsLight s j
      → IsWithMultiple (polynomial made j) (polynomial s j) (polynomial s p) (factor values p j)

-- nothing changes, for the values of the light polynomials are 0, or a step is taken with the pivot
abbrev pub IsStepOrNone : Polynomials → Polynomials → List ℕ → ℕ → Type 0
IsStepOrNone s made values a =
    (AreZeroWhereLight s values × (made ≡ s)) ⊎ ((p : ℕ) × IsPivot s values p × IsStep s made values a p)

-- what imposing the condition on the polynomials makes of them
pub record IsImposed (s made : Polynomials) (c : Condition) : Type 0 where
  pub alike : made ≡ with_rows s made.rows made.exponents
  pub values : List ℕ
  pub are : AreValues s c values
  pub step : IsStepOrNone s made values c.a

-- as many rows, with which the polynomials are a basis, whose derivatives the window has from row v on
pub record FitWindow (s : Polynomials) (w : Derivatives) (v : ℕ) (rows : List (List ℕ)) : Type 0 where
  pub size : length rows ≡ length s.rows
  pub basis : IsBasis (with_rows s rows s.exponents)
  pub window : IsLightWindow (with_rows s rows s.exponents) w v

-- the condition is imposed on the polynomials, and the window has their derivatives
pub record IsImposedBeside (s made : Polynomials) (w : Derivatives) (c : Condition) : Type 0 where
  pub imposed : IsImposed s made c
  pub window : IsLightWindow made w c.v

-- with the new exponents and the new window the condition is imposed on whatever rows fit what they were before: on those that
-- took the step, if there is one
abbrev pub Imposes : Bool → KeptStep → Condition → Polynomials × Derivatives → Polynomials × Derivatives → Type 0
Imposes taken step c before now = (rows made : List (List ℕ))
    → FitWindow before.0 before.1 c.v rows → TakeIf taken step before.0.t made rows
    → IsImposedBeside (with_rows before.0 rows before.0.exponents) (with_rows before.0 made now.0.exponents) now.1 c

-- each light polynomial has a zero of multiplicity m or more at (x, y)
abbrev pub HaveZero : Polynomials → ℕ → ℕ → ℕ → Type 0
HaveZero s x y m = (j : ℕ) → j < length s.rows → IsLight s j → HasZero (polynomial s j) x y m

-- what becomes of the polynomials: the light ones have a zero of multiplicity m at (a, b), and the zeros that all the light ones
-- had before; together the exponents rise by at most one for each condition
pub record IsPassing (s made : Polynomials) (a b m : ℕ) : Type 0 where
  pub alike : made ≡ with_rows s made.rows made.exponents
  pub size : length made.rows ≡ length s.rows
  pub basis : IsBasis made
  pub zeros : HaveZero made a b m
  pub kept : (x y k : ℕ) → HaveZero s x y k → HaveZero made x y k
  pub rise : sum made.exponents ≤ sum s.exponents + conditions 1 m

-- none weighs less than the polynomial at place p
pub record IsLeast (s : Polynomials) (p : ℕ) : Type 0 where
  pub inside : p < length s.rows
  pub least : (j : ℕ) → j < length s.rows → weight s p ≤ weight s j

-- q is the polynomial with the least weight, if that one is light, with no more coefficients in a row than that weight needs
pub record IsLightest (s : Polynomials) (q : List (List ℕ)) : Type 0 where
  pub place : ℕ
  pub least : IsLeast s place
  pub is : IsLight s place → (j i : ℕ) → cell q j i ≡ cell (polynomial s place) j i
  pub size : length q ≡ length s.rows
  pub each : (j : ℕ) → length (row q j) ≤ weight s place + 1

-- row j of the powers of y: that at place j has 1 there, and the others have nothing
pub record IsPowerRow (n : ℕ) (r : List ℕ) (j : ℕ) : Type 0 where
  pub size : length r ≡ n
  pub one : slice_index r j ≡ 1
  pub others : (k : ℕ) → k ≢ j → slice_index r k ≡ 0
