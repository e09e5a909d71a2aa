use Rattle.std.proofs.Common.{◌≡◌, ◌≢◌, ℕ, ◌+◌, ◌<◌, ◌≤◌, Bool, eqb, eqb-true, get_or, sym, subst, ◌∙◌, arith, lit≤, w8}
use Rattle.std.specs.Simd.Lanes.{chunk}
use lib.Count.{count_trailing_zeros}
use Rattle.std.proofs.lemmas.Bool.{eqb-false}
use Rattle.std.proofs.lemmas.Simd.{length-chunk, bitmask_splat, trailing_mask_l, none_from_empty_mask, run_in_chunk_le, run_in_chunk_fails, run_in_chunk_stops}
use Rattle.rr_roots.proofs.values.count_before_zero.Goals as goal

-- a value is 0
is_zero : ℕ → Bool
is_zero x = eqb x 0

pub returns-then-zeros-eq0-clause-others : goal.returns-then-zeros-eq0-clause-others
unfolding is_zero
returns-then-zeros-eq0-clause-others c = λ k from to.
    let values = c.args.values.now in
    let at = c.args.at in
    let mask = bitmask_splat w8 eqb (chunk at 32 values) 32 0 (length-chunk at 32 values c.requires) (lit≤ tt) in
    eqb-false (get_or values k 0) 0 (none_from_empty_mask is_zero values at 32 0 c.requires (sym mask ∙ c.if-zeros-eq0.true) k from to)

pub returns-clause-few : goal.returns-clause-few
unfolding is_zero
returns-clause-few c =
    let values = c.args.values.now in
    let at = c.args.at in
    let size = length-chunk at 32 values c.requires in
    let mask = bitmask_splat w8 eqb (chunk at 32 values) 32 0 size (lit≤ tt) in
    let some = subst (λ m. m ≢ 0) mask c.if-zeros-eq0.false in
    let counted = trailing_mask_l is_zero 64 (chunk at 32 values) (omega (arith, size)) (omega (arith, some)) in
    subst (λ m. count_trailing_zeros 64 m ≤ 32) (sym mask) (run_in_chunk_le is_zero values at 32 _ 0 c.requires counted)

pub returns-clause-others : goal.returns-clause-others
unfolding is_zero
returns-clause-others c = λ k from to.
    let values = c.args.values.now in
    let at = c.args.at in
    let size = length-chunk at 32 values c.requires in
    let mask = bitmask_splat w8 eqb (chunk at 32 values) 32 0 size (lit≤ tt) in
    let some = subst (λ m. m ≢ 0) mask c.if-zeros-eq0.false in
    let counted = trailing_mask_l is_zero 64 (chunk at 32 values) (omega (arith, size)) (omega (arith, some)) in
    eqb-false (get_or values k 0) 0 (run_in_chunk_fails is_zero values at 32 _ 0 c.requires counted k from (subst (λ m. k < at + count_trailing_zeros 64 m) mask to))

pub returns-clause-zero : goal.returns-clause-zero
unfolding is_zero
returns-clause-zero c = λ less.
    let values = c.args.values.now in
    let at = c.args.at in
    let size = length-chunk at 32 values c.requires in
    let mask = bitmask_splat w8 eqb (chunk at 32 values) 32 0 size (lit≤ tt) in
    let some = subst (λ m. m ≢ 0) mask c.if-zeros-eq0.false in
    let counted = trailing_mask_l is_zero 64 (chunk at 32 values) (omega (arith, size)) (omega (arith, some)) in
    subst (λ m. get_or values (at + count_trailing_zeros 64 m) 0 ≡ 0) (sym mask)
    (eqb-true _ 0 (run_in_chunk_stops is_zero values at 32 _ 0 c.requires counted (subst (λ m. count_trailing_zeros 64 m < 32) mask less)))
