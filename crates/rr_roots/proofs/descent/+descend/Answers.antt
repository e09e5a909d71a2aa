use Rattle.std.proofs.Common.{◌≡◌, ◌≢◌, ◌<◌, ◌≤◌, ◌+◌, ◌-◌, ◌*◌, ℕ, Fits, w8, w64, List, [], ◌∷◌, ◌++◌, length, map, take, vec_len, refl, ap, subst, ◌∙◌, arith}
use Rattle.std.proofs.Math.Nat.{le_refl, le-add_right}
use Rattle.std.proofs.Math.Seq.{take-append_seam}
use Rattle.std.proofs.lemmas.List.{length-append}
use Rattle.std.proofs.lemmas.Result.{IfOk-from_err}
use Rattle.gf256.specs.Polynomial.{val}
use Rattle.bi_poly.specs.Rows.{column}
use Rattle.rr_roots.specs.Descent.{Appends, IsRootOfSize, IsStripped}
use Rattle.rr_roots.specs.Values.{AreValues, HaveNoZero}
use Rattle.rr_roots.proofs.Children.{first_is_below, root_begins, roots-of_size, child-nonzero, child-rows, child-roots, child-degree}
use Rattle.rr_roots.proofs.Levels.{HoldsBelow, appends-none_yet, appends-skips, appends-more, appends-all}
use Rattle.rr_roots.proofs.Multiplicities.{multiplicity}
use Rattle.rr_roots.proofs.ByteValues.{value-zero, value-other}
use Rattle.rr_roots.proofs.Nodes.{counted, none_begins, nodes-skips, nodes-more, nodes-most, nodes-spent, nodes-least}
use Rattle.rr_roots.proofs.descent.+descend.Goals as goal

-- where it is not 0, it is more
positive : (n : ℕ) → n ≢ 0 → 0 < n
positive n some = omega (arith, some)

-- a byte is a place
fits : (b : ℕ) → b < 256 → Fits w64 b
fits b less = omega (arith, less)

-- and a byte
fits_byte : (b : ℕ) → b < 256 → Fits w8 b
fits_byte b less = omega (arith, less)

-- nothing is less than itself
never : (n : ℕ) → n < n → ⊥
never n less = omega (arith, less)

-- what stayed twice stayed
stayed : (xs ys zs : List ℕ) → zs ≡ ys → ys ≡ xs → zs ≡ xs
stayed xs ys zs later earlier = later ∙ earlier

-- one fewer is left
fewer : (t m : ℕ) → t ≡ m → t ≢ 0 → t - 1 < m
fewer t m same some = omega (arith, same, some)

-- a number and one more
more_than_none : (t : ℕ) → 0 < t + 1
more_than_none t = omega arith

-- those that are left
again : (t : ℕ) → t ≢ 0 → t - 1 + 1 ≡ t + 1 - 1
again t some = omega (arith, some)

-- on the last level there is one
only_one : (t : ℕ) → t ≡ 0 → 1 ≡ t + 1
only_one t none = omega (arith, none)

-- and none after it
nothing_after : (n t : ℕ) → t ≡ 0 → n + (t + 1 - 1) ≤ n
nothing_after n t none = omega (arith, none)

-- no y-root begins with a byte that was passed over
roots_skipped : {whole q : List (List ℕ)} {values : List ℕ} {r : ℕ} (s : IsStripped whole q r) (n from to : ℕ) (prefix : List ℕ) (old new : List (List ℕ)) → 0 < n
    → AreValues values (column q 0) → from ≤ to → to ≤ 256 → HaveNoZero values from to
    → Appends (HoldsBelow (IsRootOfSize whole n) from) prefix old new → Appends (HoldsBelow (IsRootOfSize whole n) to) prefix old new
roots_skipped {whole = whole} s n from to prefix old new some are up within none h =
    appends-skips (IsRootOfSize whole n) from to prefix old new up h
    (λ g past l phi. none_begins s n g some (value-other g are (omega (arith, l, within)) (none g past l)) phi)

pub roots-init : goal.roots-init
roots-init g t c = record {
  within = omega arith;
  kept = refl;
  appends = appends-none_yet (IsRootOfSize c.args.q (c.args.t + 1)) c.args.walk.now.prefix.items (map (λ r. r.items) c.args.walk.now.roots.items);
  most = le-add_right c.args.nodes.now _;
  least = λ found. absurd (never (length c.args.walk.now.roots.items) found);
  rises = le_refl c.args.nodes.now;
}

pub returns-in_err-child-clause-most : goal.returns-in_err-child-clause-most
returns-in_err-child-clause-most g t c = λ d h.
    let first = c.in-Some.ensures in
    let g = c.in-Some.place in
    let less : g < 256 = first.inside in
    nodes-spent c.open-node.ensures.stripped (c.args.t + 1) c.args.nodes.now c.roots.nodes c.tick.new.self c.tick.new.self g d
    (more_than_none c.args.t) less (value-zero g c.open-node.ensures.values_are less first.zero) h
    (nodes-skips c.open-node.ensures.stripped (c.args.t + 1) c.args.nodes.now c.roots.nodes c.roots.from g first.later c.roots.invariant.most) c.tick.ensures (le-add_right c.tick.new.self _)

pub returns-in_err-keep_root-clause-most : goal.returns-in_err-keep_root-clause-most
returns-in_err-keep_root-clause-most g t c = λ d h.
    let first = c.in-Some.ensures in
    let g = c.in-Some.place in
    let less : g < 256 = first.inside in
    nodes-spent c.open-node.ensures.stripped (c.args.t + 1) c.args.nodes.now c.roots.nodes c.tick.new.self c.tick.new.self g d
    (more_than_none c.args.t) less (value-zero g c.open-node.ensures.values_are less first.zero) h
    (nodes-skips c.open-node.ensures.stripped (c.args.t + 1) c.args.nodes.now c.roots.nodes c.roots.from g first.later c.roots.invariant.most) c.tick.ensures (le-add_right c.tick.new.self _)

pub descend-requires : goal.descend-requires
descend-requires g t c κs within =
    let s = c.open-node.ensures.stripped in
    let child = c.in_ok-child.ensures.child in (
      fewer c.args.t t c.decreases c.if-t-eq0.false,
      (
        within,
        record {
          nonzero = child-nonzero s c.in-Some.ensures.inside child;
          enough = child-rows s c.in-Some.ensures.inside child _ c.requires.enough;
          powers_are = c.requires.powers_are;
        },
      ),
    )

pub returns-in_err-descend-clause-most : goal.returns-in_err-descend-clause-most
returns-in_err-descend-clause-most g t c = λ d h.
    let s = c.open-node.ensures.stripped in
    let first = c.in-Some.ensures in
    let g = c.in-Some.place in
    let p = column c.open-node.result.q 0 in
    let less : g < 256 = first.inside in
    let zero : val p g ≡ 0 = value-zero g c.open-node.ensures.values_are less first.zero in
    nodes-spent s (c.args.t + 1) c.args.nodes.now c.roots.nodes c.tick.new.self c.descend.new.nodes g d
    (more_than_none c.args.t) less zero h
    (nodes-skips c.open-node.ensures.stripped (c.args.t + 1) c.args.nodes.now c.roots.nodes c.roots.from g first.later c.roots.invariant.most) c.tick.ensures
    (subst (λ n. c.descend.new.nodes ≤ c.tick.new.self + n * multiplicity p g) (again c.args.t c.if-t-eq0.false)
    (c.descend.ensures.most (multiplicity p g) (child-degree s less c.in_ok-child.ensures.child)))

-- a coefficient at the end of what stayed
with_last : (xs ys zs : List ℕ) (n : ℕ) → zs ≡ ys ++ n ∷ [] → ys ≡ xs → zs ≡ xs ++ n ∷ []
with_last xs ys zs n pushed kept = pushed ∙ ap (λ ys. ys ++ n ∷ []) kept

-- and what is left after it is taken away
without_last : (xs ys zs rest : List ℕ) (n m : ℕ) → ys ≡ xs ++ n ∷ [] → zs ≡ ys → m ≡ length zs → rest ≡ take (m - 1) zs → rest ≡ xs
without_last xs ys zs rest n m pushed kept count popped =
    let same = kept ∙ pushed in
    let k : m - 1 ≡ length xs = omega (arith, length-append xs (n ∷ []), ap length same, count) in
    popped ∙ ap (λ zs. take (m - 1) zs) same ∙ ap (λ k. take k (xs ++ n ∷ [])) k ∙ take-append_seam xs (n ∷ [])

pub roots-preserved : goal.roots-preserved
roots-preserved g t c =
    let s = c.open-node.ensures.stripped in
    let child = c.in_ok-child.ensures.child in
    let first = c.in-Some.ensures in
    let g = c.in-Some.place in
    let p = column c.open-node.result.q 0 in
    let left = c.args.t + 1 in
    let less : g < 256 = first.inside in
    let some : 0 < left = more_than_none c.args.t in
    let zero : val p g ≡ 0 = value-zero g c.open-node.ensures.values_are less first.zero in
    let prefix = c.args.walk.now.prefix.items in
    let pushed : c.child_at.new.prefix.items ≡ prefix ++ g ∷ [] =
    with_last prefix c.roots.walk.prefix.items c.child_at.new.prefix.items g c.in_ok-child.ensures.prefix c.roots.invariant.kept in
    let Sub = IsRootOfSize c.in_ok-child.child (left - 1) in
    let old = map (λ r. r.items) c.args.walk.now.roots.items in
    let before = map (λ r. r.items) c.roots.walk.roots.items in
    let new = map (λ r. r.items) c.descend.new.walk.roots.items in
    let rest : c.args.t - 1 + 1 ≡ left - 1 = again c.args.t c.if-t-eq0.false in
    record {
      within = omega (arith, less);
      kept = without_last prefix c.child_at.new.prefix.items c.descend.new.walk.prefix.items c.pop.new.self.items g (vec_len c.descend.new.walk.prefix)
          pushed c.in_ok-descend.ensures.found.kept c.descend.new.walk.prefix.ok.0 c.pop.ensures.rest;
      appends = appends-more (IsRootOfSize c.args.q left) Sub g prefix old before new (root_begins c.args.q left some)
          (λ psi. child-roots s less child left psi some)
          (roots_skipped c.open-node.ensures.stripped (c.args.t + 1) c.roots.from g c.args.walk.now.prefix.items (map (λ r. r.items) c.args.walk.now.roots.items) (map (λ r. r.items) c.roots.walk.roots.items) (more_than_none c.args.t) c.open-node.ensures.values_are first.later (omega (arith, less)) first.others c.roots.invariant.appends)
          (subst (λ n. Appends (IsRootOfSize c.in_ok-child.child n) (prefix ++ g ∷ []) before new) rest
          (subst (λ prefix. Appends (IsRootOfSize c.in_ok-child.child (c.args.t - 1 + 1)) prefix before new) pushed c.in_ok-descend.ensures.found.appends));
      most = nodes-more s left c.args.nodes.now c.roots.nodes c.tick.new.self c.descend.new.nodes g some less zero
          (nodes-skips c.open-node.ensures.stripped (c.args.t + 1) c.args.nodes.now c.roots.nodes c.roots.from g first.later c.roots.invariant.most) c.tick.ensures
          (subst (λ n. c.descend.new.nodes ≤ c.tick.new.self + n * multiplicity p g) rest (c.in_ok-descend.ensures.most (multiplicity p g) (child-degree s less child)));
      least = nodes-least left c.args.nodes.now c.roots.nodes c.tick.new.self c.descend.new.nodes
          (length c.args.walk.now.roots.items) (length c.roots.walk.roots.items) (length c.descend.new.walk.roots.items)
          some c.roots.invariant.rises c.tick.ensures c.in_ok-descend.ensures.rises c.roots.invariant.least
          (λ more. subst (λ n. c.tick.new.self + n ≤ c.descend.new.nodes) rest (c.in_ok-descend.ensures.least more));
      rises = counted c.args.nodes.now c.roots.nodes c.tick.new.self c.descend.new.nodes c.roots.invariant.rises c.tick.ensures c.in_ok-descend.ensures.rises;
    }

pub roots-preserved-then-t-eq0 : goal.roots-preserved-then-t-eq0
roots-preserved-then-t-eq0 g t c =
    let s = c.open-node.ensures.stripped in
    let q = c.open-node.result.q in
    let first = c.in-Some.ensures in
    let g = c.in-Some.place in
    let left = c.args.t + 1 in
    let one : 1 ≡ left = only_one c.args.t c.if-t-eq0.true in
    let less : g < 256 = first.inside in
    let some : 0 < left = more_than_none c.args.t in
    let zero : val (column q 0) g ≡ 0 = value-zero g c.open-node.ensures.values_are less first.zero in
    let Sub = λ (psi : List ℕ). IsRootOfSize q 1 (g ∷ psi) in
    let before = map (λ r. r.items) c.roots.walk.roots.items in
    let new = map (λ r. r.items) c.keep_root.new.walk.roots.items in
    record {
      within = omega (arith, less);
      kept = stayed c.args.walk.now.prefix.items c.roots.walk.prefix.items c.keep_root.new.walk.prefix.items c.in_ok-keep_root.ensures.kept c.roots.invariant.kept;
      appends = appends-more (IsRootOfSize c.args.q left) Sub g c.args.walk.now.prefix.items (map (λ r. r.items) c.args.walk.now.roots.items) before new
          (root_begins c.args.q left some) (λ psi. roots-of_size s 1 left (g ∷ psi) one)
          (roots_skipped c.open-node.ensures.stripped (c.args.t + 1) c.roots.from g c.args.walk.now.prefix.items (map (λ r. r.items) c.args.walk.now.roots.items) (map (λ r. r.items) c.roots.walk.roots.items) (more_than_none c.args.t) c.open-node.ensures.values_are first.later (omega (arith, less)) first.others c.roots.invariant.appends)
          (subst (λ prefix. Appends Sub (prefix ++ g ∷ []) before new) c.roots.invariant.kept c.in_ok-keep_root.ensures.appends);
      most = nodes-more s left c.args.nodes.now c.roots.nodes c.tick.new.self c.tick.new.self g some less zero
          (nodes-skips c.open-node.ensures.stripped (c.args.t + 1) c.args.nodes.now c.roots.nodes c.roots.from g first.later c.roots.invariant.most) c.tick.ensures (le-add_right c.tick.new.self _);
      least = nodes-least left c.args.nodes.now c.roots.nodes c.tick.new.self c.tick.new.self
          (length c.args.walk.now.roots.items) (length c.roots.walk.roots.items) (length c.keep_root.new.walk.roots.items)
          some c.roots.invariant.rises c.tick.ensures (le_refl c.tick.new.self) c.roots.invariant.least
          (λ more. nothing_after c.tick.new.self c.args.t c.if-t-eq0.true);
      rises = counted c.args.nodes.now c.roots.nodes c.tick.new.self c.tick.new.self c.roots.invariant.rises c.tick.ensures (le_refl c.tick.new.self);
    }

pub returns-clause-found : goal.returns-clause-found
returns-clause-found g t c = record {
  kept = c.roots.invariant.kept;
  appends = appends-all (IsRootOfSize c.args.q (c.args.t + 1)) 256 c.args.walk.now.prefix.items
      (map (λ r. r.items) c.args.walk.now.roots.items) (map (λ r. r.items) c.roots.walk.roots.items)
      (first_is_below c.args.q (c.args.t + 1) 256 (le_refl 256))
      (roots_skipped c.open-node.ensures.stripped (c.args.t + 1) c.roots.from 256 c.args.walk.now.prefix.items
      (map (λ r. r.items) c.args.walk.now.roots.items) (map (λ r. r.items) c.roots.walk.roots.items) (more_than_none c.args.t)
      c.open-node.ensures.values_are c.roots.invariant.within (le_refl 256) c.in_default.ensures c.roots.invariant.appends);
}

pub returns-clause-most : goal.returns-clause-most
returns-clause-most g t c = λ d h.
    nodes-most c.open-node.ensures.stripped (c.args.t + 1) c.args.nodes.now c.roots.nodes c.roots.from d
    c.roots.invariant.within h c.roots.invariant.most

pub returns-clause-least : goal.returns-clause-least
returns-clause-least g t c = c.roots.invariant.least

pub returns-in_err-child-clause-rises : goal.returns-in_err-child-clause-rises
returns-in_err-child-clause-rises g t c = counted c.args.nodes.now c.roots.nodes c.tick.new.self c.tick.new.self c.roots.invariant.rises c.tick.ensures (le_refl c.tick.new.self)

pub returns-in_err-keep_root-clause-rises : goal.returns-in_err-keep_root-clause-rises
returns-in_err-keep_root-clause-rises g t c = counted c.args.nodes.now c.roots.nodes c.tick.new.self c.tick.new.self c.roots.invariant.rises c.tick.ensures (le_refl c.tick.new.self)

pub returns-in_err-descend-clause-rises : goal.returns-in_err-descend-clause-rises
returns-in_err-descend-clause-rises g t c = counted c.args.nodes.now c.roots.nodes c.tick.new.self c.descend.new.nodes c.roots.invariant.rises c.tick.ensures c.in_err-descend.ensures.rises

pub returns-clause-rises : goal.returns-clause-rises
returns-clause-rises g t c = c.roots.invariant.rises

pub returns-in_err-child-clause-found : goal.returns-in_err-child-clause-found
returns-in_err-child-clause-found g t c = IfOk-from_err c.from_residual-in_err-child.result _ c.from_residual-in_err-child.ensures.0

pub returns-in_err-child-clause-least : goal.returns-in_err-child-clause-least
returns-in_err-child-clause-least g t c = IfOk-from_err c.from_residual-in_err-child.result _ c.from_residual-in_err-child.ensures.0

pub returns-in_err-keep_root-clause-found : goal.returns-in_err-keep_root-clause-found
returns-in_err-keep_root-clause-found g t c = IfOk-from_err c.from_residual.result _ c.from_residual.ensures.0

pub returns-in_err-keep_root-clause-least : goal.returns-in_err-keep_root-clause-least
returns-in_err-keep_root-clause-least g t c = IfOk-from_err c.from_residual.result _ c.from_residual.ensures.0

pub returns-in_err-descend-clause-found : goal.returns-in_err-descend-clause-found
returns-in_err-descend-clause-found g t c = IfOk-from_err c.from_residual-in_err-descend.result _ c.from_residual-in_err-descend.ensures.0

pub returns-in_err-descend-clause-least : goal.returns-in_err-descend-clause-least
returns-in_err-descend-clause-least g t c = IfOk-from_err c.from_residual-in_err-descend.result _ c.from_residual-in_err-descend.ensures.0

pub overflow_sub-t : goal.overflow_sub-t
overflow_sub-t g t c = positive c.args.t c.if-t-eq0.false

pub open-node-requires : goal.open-node-requires
open-node-requires g t c = c.requires
