-- Steps of the iteration that are kept until each row takes them, one after the other.
use Rattle.std.specs.Prelude.{◌≡◌, Bool, true, false, ℕ, zero, suc, ◌-◌, ◌*◌, ◌<◌, ◌≤◌, List, [], length, slice_index_or, slice_set}
use Rattle.bi_poly.specs.Rows.{row}
use Rattle.gs_interpolate.specs.Family.{IsFamilyStep, IsRowStep, StaysWhole}
use Rattle.gs_interpolate.specs.declared.basis.TheConstants.{MOST_LANES, MOST_WEIGHT}

-- a step: a factor for each lane, the place of the pivot, and the weight from which on nothing changes
pub record KeptStep : Type 0 where
  pub factors : List ℕ
  pub p : ℕ
  pub reach : ℕ

-- the pivot has a lane, and all is as small as in any interpolation
pub record IsSoundStep (step : KeptStep) : Type 0 where
  pub inside : step.p < length step.factors
  pub few : length step.factors ≤ MOST_LANES
  pub small : step.reach ≤ MOST_WEIGHT

-- the step with another factor for the pivot itself
abbrev pub with_own : KeptStep → ℕ → KeptStep
with_own step own = record step { factors = slice_set step.factors step.p own }

-- the step at place k
abbrev pub step_at : List KeptStep → ℕ → KeptStep
step_at steps k = slice_index_or steps k (record { factors = []; p = 0; reach = 0 })

-- each has so many lanes
abbrev pub HaveLanes : ℕ → List KeptStep → Type 0
HaveLanes n steps = (k : ℕ) → k < length steps → length (step_at steps k).factors ≡ n

-- a row whose first monomials weigh so much took the step
pub record TookStep (step : KeptStep) (weight : ℕ) (now before : List ℕ) : Type 0 where
  pub changed : IsRowStep step.factors step.p now before (step.reach - weight)
  pub whole : StaysWhole (length step.factors) now before

-- it took the first k of the steps, one after the other
unfoldable pub TookSteps : List KeptStep → ℕ → ℕ → List ℕ → List ℕ → Type 0
TookSteps steps weight zero now before = now ≡ before
TookSteps steps weight (suc k) now before =
    (mid : List ℕ) × TookSteps steps weight k mid before × TookStep (step_at steps k) weight now mid

-- it took all of them
abbrev pub TookAll : List KeptStep → ℕ → List ℕ → List ℕ → Type 0
TookAll steps weight now before = TookSteps steps weight (length steps) now before

-- each row took the first k of the steps, where the first monomials of row j weigh t * j
pub record HaveTaken (steps : List KeptStep) (t k : ℕ) (now before : List (List ℕ)) : Type 0 where
  pub size : length now ≡ length before
  pub each : (j : ℕ) → j < length before → TookSteps steps (t * j) k (row now j) (row before j)

-- each row took all of them
abbrev pub HaveTakenAll : List KeptStep → ℕ → List (List ℕ) → List (List ℕ) → Type 0
HaveTakenAll steps t now before = HaveTaken steps t (length steps) now before

-- each row took the step, if it is one to take, and else nothing changed
abbrev pub TakeIf : Bool → KeptStep → ℕ → List (List ℕ) → List (List ℕ) → Type 0
TakeIf true step t now before = IsFamilyStep step.factors step.p t step.reach now before
TakeIf false step t now before = now ≡ before
