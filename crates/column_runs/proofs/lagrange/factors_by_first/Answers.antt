use Rattle.std.proofs.Common.{◌≡◌, ◌≢◌, ◌∙◌, ◌+◌, ◌<◌, ℕ, List, [], ◌∷◌, ◌++◌, Vec, Global, AllPairs, inl, inr, length, map, get_or, take, sym, ap, subst, arith, get_or-take, length-append}
use Rattle.std.proofs.lemmas.Bool.{cases_lt}
use Rattle.std.proofs.lemmas.List.{get_or_append_left, get_or_push, length-take, length-take-le, map-append}
use Rattle.std.proofs.lemmas.Result.{IfOk-from_err}
use Rattle.column_runs.specs.Lagrange.{Extends}
use Rattle.column_runs.proofs.DifferenceRows.{length-items}
use Rattle.column_runs.proofs.lagrange.factors_by_first.Goals as goal

-- the first t + 1 are some
first_some : (xs : List ℕ) (t : ℕ) → t < length xs → 0 < length (take (t + 1) xs)
first_some xs t enough =
    let size = length-take-le (t + 1) xs (omega (arith, enough)) in
    omega (arith, size)

-- no two of the first places are equal
distinct-take : (n : ℕ) (xs : List ℕ) → AllPairs (λ x y. x ≢ y) xs → AllPairs (λ x y. x ≢ y) (take n xs)
distinct-take n xs h = λ i j d l m same.
    let size = length-take n xs in
    h i j d l (omega arith) (sym (get_or-take n xs i d (omega arith)) ∙ same ∙ get_or-take n xs j d (omega arith))

-- the factors of one place more
each_more : (base xs : List ℕ) (from : ℕ) (before after : List (Vec ℕ Global)) (v : Vec ℕ Global) → after ≡ before ++ v ∷ [] → Extends base (get_or xs (from + length before) 0) v.items
    → ((k : ℕ) → k < length before → Extends base (get_or xs (from + k) 0) (get_or (map (λ (f : Vec ℕ Global). f.items) before) k []))
    → (k : ℕ) → k < length after → Extends base (get_or xs (from + k) 0) (get_or (map (λ (f : Vec ℕ Global). f.items) after) k [])
each_more base xs from before after v is last so_far k l =
    let items = λ (f : Vec ℕ Global). f.items in
    let all : map items after ≡ map items before ++ v.items ∷ [] = ap (map items) is ∙ map-append items before (v ∷ []) in
    let size = length-items before in
    let whole = ap length is ∙ length-append before (v ∷ []) in
    subst (λ (rows : List (List ℕ)). Extends base (get_or xs (from + k) 0) (get_or rows k [])) (sym all)
    (elim (cases_lt k (length before)) [
      | inl below ↦ subst (Extends base (get_or xs (from + k) 0)) (sym (get_or_append_left (map items before) (v.items ∷ []) [] k (omega (arith, below, size)))) (so_far k below)
      | inr above ↦
          let here : length before ≡ k = omega (arith, above, l, whole) in
          subst (Extends base (get_or xs (from + k) 0)) (sym (get_or_push (map items before) v.items [] k (size ∙ here)))
          (subst (λ (m : ℕ). Extends base (get_or xs (from + m) 0) v.items) here last)
    ])

pub returns : goal.returns
returns c =
    let n = length-items c.loop-place.others.items in
    let size = c.loop-place.invariant.size in
    let front = length-take-le (c.args.t + 1) c.args.xs.now (let enough = c.requires.enough in omega (arith, enough)) in
    let end : c.loop-place.place ≡ length c.args.xs.now = omega (arith, c.requires.enough, front) in
    record {
      count = omega (arith, end, size, n);
      each = λ k l. c.loop-place.invariant.each k (omega (arith, l, n));
      constant = c.in_ok-zero.ensures;
    }

pub loop-place-init : goal.loop-place-init
loop-place-init c =
    let none = ap length c.in_ok-others.ensures.items in
    let front = length-take-le (c.args.t + 1) c.args.xs.now (omega (arith, c.requires.enough)) in
    record {
      size = omega (arith, front, none);
      each = λ k l. absurd (omega (arith, l, none));
    }

pub loop-place-preserved : goal.loop-place-preserved
loop-place-preserved c =
    let before = c.loop-place.others.items in
    let size = c.loop-place.invariant.size in
    let more = ap length c.in_ok-push.ensures.items ∙ length-append before _ in
    let xs = c.args.xs.now in
    let base = take (c.args.t + 1) xs in
    let last = subst (λ (place : ℕ). Extends base (get_or xs place 0) c.in_ok-own.own.items) size c.in_ok-own.ensures in
    record {
      size = omega (arith, size, more);
      each = each_more base xs (c.args.t + 1) before _ c.in_ok-own.own c.in_ok-push.ensures.items last c.loop-place.invariant.each;
    }

pub factors_for-requires-clause-distinct : goal.factors_for-requires-clause-distinct
factors_for-requires-clause-distinct c =
    distinct-take (c.args.t + 1) c.args.xs.now c.requires.distinct

pub factors_for-requires-2-clause-distinct : goal.factors_for-requires-2-clause-distinct
factors_for-requires-2-clause-distinct c =
    distinct-take (c.args.t + 1) c.args.xs.now c.requires.distinct

pub returns-in_err-own : goal.returns-in_err-own
returns-in_err-own c = IfOk-from_err c.from_residual-in_err-own.result _ c.from_residual-in_err-own.ensures.0

pub returns-in_err-push : goal.returns-in_err-push
returns-in_err-push c = IfOk-from_err c.from_residual-in_err-push.result _ c.from_residual-in_err-push.ensures.0

pub returns-in_err-zero : goal.returns-in_err-zero
returns-in_err-zero c = IfOk-from_err c.from_residual-in_err-zero.result _ c.from_residual-in_err-zero.ensures.0

pub loop-place-smaller : goal.loop-place-smaller
loop-place-smaller c = omega (arith, c.loop-place-test.true)

pub bounds-xs-place : goal.bounds-xs-place
bounds-xs-place c = c.loop-place-test.true

pub slice_bounds-base-end : goal.slice_bounds-base-end
slice_bounds-base-end c =
    let first = length-take-le (c.args.t + 1) c.args.xs.now (omega (arith, c.requires.enough)) in
    omega (arith, first, c.requires.enough)

pub overflow_add-base : goal.overflow_add-base
overflow_add-base c = omega (arith, c.ranges.t.fits)

pub overflow_cast-base : goal.overflow_cast-base
overflow_cast-base c = omega (arith, c.ranges.t.fits)

pub overflow_sub-xs : goal.overflow_sub-xs
overflow_sub-xs c =
    let first = length-take-le (c.args.t + 1) c.args.xs.now (omega (arith, c.requires.enough)) in
    omega (arith, first, c.requires.enough)

pub weights_of-requires-clause-some : goal.weights_of-requires-clause-some
weights_of-requires-clause-some c = first_some c.args.xs.now c.args.t c.requires.enough

pub weights_of-requires-clause-distinct : goal.weights_of-requires-clause-distinct
weights_of-requires-clause-distinct c =
    distinct-take (c.args.t + 1) c.args.xs.now c.requires.distinct
