use Rattle.std.proofs.Common.{◌≡◌, ℕ, ◌+◌, ◌-◌, ◌*◌, ◌%◌, ◌≤◌, List, length, get_or, take, drop, sym, ap, subst, ◌∙◌, arith}
use Rattle.std.proofs.Math.Nat.{mod-lt, mod-eq_of_lt}
use borrow.Rule.Slice.PartMut.{put_mid}
use Rattle.gf256.specs.Field.{◌⊕◌, ◌⊗◌, power}
use Rattle.gf256.proofs.FieldLaws.{one_mul}
use Rattle.gf256.proofs.FlatRows.{row_within}
use Rattle.gs_interpolate.specs.Expansion.{IsPieceAdded}
use Rattle.gs_interpolate.proofs.Places.{part_here, part_elsewhere, part_size, part_before, length-part}
use Rattle.gs_interpolate.proofs.expansion.add_values.Goals as goal

-- a piece to which the values were added, times a factor, in its place
piece_written : (f at : ℕ) (values sums new : List ℕ) → at * length values + length values ≤ length sums → length new ≡ length values
    → ((k : ℕ) → get_or new k 0 ≡ get_or (take (length values) (drop (at * length values) sums)) k 0 ⊕ f ⊗ get_or values k 0)
    → IsPieceAdded f at values (put_mid (at * length values) (length values) sums new) sums
piece_written f at values sums new room size is =
    let n = length values in
    record {
      size = part_size sums new (at * n) n room size;
      here = λ k l. part_here sums new (at * n) n k room size l ∙ is k ∙ ap (λ x. x ⊕ f ⊗ get_or values k 0) (part_before sums (at * n) n k l);
      others = λ k apart. part_elsewhere sums new (at * n) n k room size apart;
    }

-- the power with no factor
no_factor : (a j : ℕ) → power a (j - j) ≡ 1
unfolding power
no_factor a j = ap (power a) (let none : j - j ≡ 0 = omega arith in none)

pub returns-then-j-terms : goal.returns-then-j-terms
returns-then-j-terms c =
    let values = c.args.values.now in
    let sums = c.args.sums.now in
    let n = length values in
    let j = c.args.j in
    let new = c.add_row.new.acc in
    let fit = row_within j c.args.terms n c.if-j-terms.true in
    let room : j * n + n ≤ length sums = omega (arith, fit, c.requires.size) in
    let whole : j * n + n - j * n ≡ n = omega arith in
    let size = c.add_row.auto.acc ∙ ap (λ k. length (take k (drop (j * n) sums))) whole ∙ length-part sums (j * n) n room in
    let is : (k : ℕ) → get_or new k 0 ≡ get_or (take n (drop (j * n) sums)) k 0 ⊕ power c.args.a (j - j) ⊗ get_or values k 0 = λ k.
    c.add_row.ensures k ∙ ap (λ m. get_or (take m (drop (j * n) sums)) k 0 ⊕ get_or values k 0) whole
    ∙ ap (◌⊕◌ (get_or (take n (drop (j * n) sums)) k 0))
    (sym (ap (λ f. f ⊗ get_or values k 0) (no_factor c.args.a j) ∙ one_mul (get_or values k 0) (c.type_inv.values k).fits)) in
    subst (λ r. IsPieceAdded (power c.args.a (j - r)) r values (put_mid (j * n) (j * n + n - j * n) sums new) sums) (sym (mod-eq_of_lt c.if-j-terms.true))
    (subst (λ m. IsPieceAdded (power c.args.a (j - j)) j values (put_mid (j * n) m sums new) sums) (sym whole)
    (piece_written (power c.args.a (j - j)) j values sums new room size is))

pub returns : goal.returns
returns c =
    let values = c.args.values.now in
    let sums = c.args.sums.now in
    let n = length values in
    let at = c.args.j % c.args.terms in
    let new = c.add_scaled_row.new.acc in
    let f = power c.args.a (c.args.j - at) in
    let fit = row_within at c.args.terms n (mod-lt c.args.j (omega (arith, c.requires.some))) in
    let room : at * n + n ≤ length sums = omega (arith, fit, c.requires.size) in
    let whole : at * n + n - at * n ≡ n = omega arith in
    let size = c.add_scaled_row.auto.acc ∙ ap (λ k. length (take k (drop (at * n) sums))) whole ∙ length-part sums (at * n) n room in
    subst (λ m. IsPieceAdded f at values (put_mid (at * n) m sums new) sums) (sym whole)
    (piece_written f at values sums new room size
    (λ k.
    c.add_scaled_row.ensures k ∙ ap (λ m. get_or (take m (drop (at * n) sums)) k 0 ⊕ c.pow-factor.result ⊗ get_or values k 0) whole
    ∙ ap (λ f. get_or (take n (drop (at * n) sums)) k 0 ⊕ f ⊗ get_or values k 0) c.pow-factor.ensures))
