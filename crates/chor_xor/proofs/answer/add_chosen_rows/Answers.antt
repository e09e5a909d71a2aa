use Rattle.std.proofs.Common.{◌≡◌, ◌∙◌, ◌+◌, ◌-◌, ◌*◌, ◌/◌, ◌<◌, ◌≤◌, ℕ, slice_index, ap, sym, le_refl, le_trans, arith}
use Rattle.gf256.specs.Field.{◌⊕◌}
use Rattle.gf256.specs.Sums.{run_sum}
use Rattle.gf256.proofs.Xor.{add_zero, add_assoc}
use Rattle.quantity_limits.specs.declared.TheConstants.{MOST_ROWS}
use Rattle.chor_xor.specs.Bitmap.{size_of}
use Rattle.chor_xor.specs.Chosen.{given}
use Rattle.chor_xor.proofs.FourSums.{four_at}
use Rattle.chor_xor.proofs.RunSums.{quarters, quarters-none, quarters-next, quarters-all}
use Rattle.chor_xor.proofs.answer.add_chosen_rows.Goals as goal

-- where the quarters begin
record Begin (from to : ℕ) : Type 0 where
  second : from + (to - from) / 4 ≤ to
  third : from + 2 * ((to - from) / 4) ≤ to
  fourth : from + 3 * ((to - from) / 4) ≤ to

-- so they do
begin : (from to : ℕ) → from ≤ to → Begin from to
begin from to order = record { second = omega (arith, order); third = omega (arith, order); fourth = omega (arith, order) }

-- a row's bit lies within the bitmap
within : (k to rows len : ℕ) → k ≤ to → to ≤ rows → len ≡ size_of rows → k ≤ 8 * len
within k to rows len here all size = omega (arith, here, all, size)

-- a row's number is small
few : (k to rows told : ℕ) → k ≤ to → to ≤ rows → told ≡ rows → told ≤ MOST_ROWS → k ≤ MOST_ROWS
few k to rows told here all is most = omega (arith, here, all, is, most)

-- the row behind it is no further than the end
next : (k end : ℕ) → k < end → k + 1 ≤ end
next k end below = omega (arith, below)

-- a row before the end of its quarter is there
there : (k end to rows : ℕ) → k < end → end ≤ to → to ≤ rows → k < rows
there k end to rows below here all = omega (arith, below, here, all)

-- each quarter ends where the next begins or later
steps : (from quarter : ℕ) → (from + quarter ≤ from + 2 * quarter) × (from + 2 * quarter ≤ from + 3 * quarter)
steps from quarter = (omega arith, omega arith)

-- as the first does
start_le : (from quarter : ℕ) → from ≤ from + quarter
start_le from quarter = omega arith

-- the first quarter has fewer rows left
nearer : (end k then : ℕ) → k < end → k + 1 ≤ then → end - then < end - k
nearer end k then below after = omega (arith, below, after)

pub next_set-a-requires-clause-order : goal.next_set-a-requires-clause-order
next_set-a-requires-clause-order c = start_le _ _

pub next_set-a-requires-clause-within : goal.next_set-a-requires-clause-within
next_set-a-requires-clause-within c = within _ _ _ _ (begin c.args.from c.args.to c.requires.order).second c.requires.within c.requires.bitmap

pub next_set-a-requires-clause-few : goal.next_set-a-requires-clause-few
next_set-a-requires-clause-few c = few _ _ _ _ (begin c.args.from c.args.to c.requires.order).second c.requires.within c.rows-rows.ensures.is c.rows-rows.ensures.few

pub next_set-a-requires-in-fours-clause-order : goal.next_set-a-requires-in-fours-clause-order
next_set-a-requires-in-fours-clause-order c = next _ _ c.fours-test.true

pub next_set-a-requires-in-fours-clause-within : goal.next_set-a-requires-in-fours-clause-within
next_set-a-requires-in-fours-clause-within c = within _ _ _ _ (begin c.args.from c.args.to c.requires.order).second c.requires.within c.requires.bitmap

pub next_set-a-requires-in-fours-clause-few : goal.next_set-a-requires-in-fours-clause-few
next_set-a-requires-in-fours-clause-few c = few _ _ _ _ (begin c.args.from c.args.to c.requires.order).second c.requires.within c.rows-rows.ensures.is c.rows-rows.ensures.few

pub next_set-b-requires-clause-order : goal.next_set-b-requires-clause-order
next_set-b-requires-clause-order c = (steps c.args.from ((c.args.to - c.args.from) / 4)).0

pub next_set-b-requires-clause-within : goal.next_set-b-requires-clause-within
next_set-b-requires-clause-within c = within _ _ _ _ (begin c.args.from c.args.to c.requires.order).third c.requires.within c.requires.bitmap

pub next_set-b-requires-clause-few : goal.next_set-b-requires-clause-few
next_set-b-requires-clause-few c = few _ _ _ _ (begin c.args.from c.args.to c.requires.order).third c.requires.within c.rows-rows.ensures.is c.rows-rows.ensures.few

pub next_set-b-requires-in-fours-clause-order : goal.next_set-b-requires-in-fours-clause-order
next_set-b-requires-in-fours-clause-order c = next _ _ c.if-b-third.true

pub next_set-b-requires-in-fours-clause-within : goal.next_set-b-requires-in-fours-clause-within
next_set-b-requires-in-fours-clause-within c = within _ _ _ _ (begin c.args.from c.args.to c.requires.order).third c.requires.within c.requires.bitmap

pub next_set-b-requires-in-fours-clause-few : goal.next_set-b-requires-in-fours-clause-few
next_set-b-requires-in-fours-clause-few c = few _ _ _ _ (begin c.args.from c.args.to c.requires.order).third c.requires.within c.rows-rows.ensures.is c.rows-rows.ensures.few

pub next_set-c-requires-clause-order : goal.next_set-c-requires-clause-order
next_set-c-requires-clause-order c = (steps c.args.from ((c.args.to - c.args.from) / 4)).1

pub next_set-c-requires-clause-within : goal.next_set-c-requires-clause-within
next_set-c-requires-clause-within c = within _ _ _ _ (begin c.args.from c.args.to c.requires.order).fourth c.requires.within c.requires.bitmap

pub next_set-c-requires-clause-few : goal.next_set-c-requires-clause-few
next_set-c-requires-clause-few c = few _ _ _ _ (begin c.args.from c.args.to c.requires.order).fourth c.requires.within c.rows-rows.ensures.is c.rows-rows.ensures.few

pub next_set-c-requires-in-fours-clause-order : goal.next_set-c-requires-in-fours-clause-order
next_set-c-requires-in-fours-clause-order c = next _ _ c.if-c-fourth.true

pub next_set-c-requires-in-fours-clause-within : goal.next_set-c-requires-in-fours-clause-within
next_set-c-requires-in-fours-clause-within c = within _ _ _ _ (begin c.args.from c.args.to c.requires.order).fourth c.requires.within c.requires.bitmap

pub next_set-c-requires-in-fours-clause-few : goal.next_set-c-requires-in-fours-clause-few
next_set-c-requires-in-fours-clause-few c = few _ _ _ _ (begin c.args.from c.args.to c.requires.order).fourth c.requires.within c.rows-rows.ensures.is c.rows-rows.ensures.few

pub next_set-d-requires-clause-order : goal.next_set-d-requires-clause-order
next_set-d-requires-clause-order c = (begin c.args.from c.args.to c.requires.order).fourth

pub next_set-d-requires-clause-within : goal.next_set-d-requires-clause-within
next_set-d-requires-clause-within c = within _ _ _ _ (le_refl c.args.to) c.requires.within c.requires.bitmap

pub next_set-d-requires-clause-few : goal.next_set-d-requires-clause-few
next_set-d-requires-clause-few c = few _ _ _ _ (le_refl c.args.to) c.requires.within c.rows-rows.ensures.is c.rows-rows.ensures.few

pub next_set-d-requires-in-fours-clause-order : goal.next_set-d-requires-in-fours-clause-order
next_set-d-requires-in-fours-clause-order c = next _ _ c.if-d-to.true

pub next_set-d-requires-in-fours-clause-within : goal.next_set-d-requires-in-fours-clause-within
next_set-d-requires-in-fours-clause-within c = within _ _ _ _ (le_refl c.args.to) c.requires.within c.requires.bitmap

pub next_set-d-requires-in-fours-clause-few : goal.next_set-d-requires-in-fours-clause-few
next_set-d-requires-in-fours-clause-few c = few _ _ _ _ (le_refl c.args.to) c.requires.within c.rows-rows.ensures.is c.rows-rows.ensures.few

pub row-requires : goal.row-requires
row-requires c = there _ _ _ _ c.fours-test.true (begin c.args.from c.args.to c.requires.order).second c.requires.within

pub row-requires-in-fours : goal.row-requires-in-fours
row-requires-in-fours c = there _ _ _ _ c.if-b-third.true (begin c.args.from c.args.to c.requires.order).third c.requires.within

pub row-requires-in-fours-2 : goal.row-requires-in-fours-2
row-requires-in-fours-2 c = there _ _ _ _ c.if-c-fourth.true (begin c.args.from c.args.to c.requires.order).fourth c.requires.within

pub row-requires-in-fours-3 : goal.row-requires-in-fours-3
row-requires-in-fours-3 c = there _ _ _ _ c.if-d-to.true (le_refl c.args.to) c.requires.within

pub add_rows-requires-clause-order : goal.add_rows-requires-clause-order
add_rows-requires-clause-order c = c.fours.invariant.a_to

pub add_rows-requires-clause-within : goal.add_rows-requires-clause-within
add_rows-requires-clause-within c = le_trans (begin c.args.from c.args.to c.requires.order).second c.requires.within

pub add_rows-requires-clause-bitmap : goal.add_rows-requires-clause-bitmap
add_rows-requires-clause-bitmap c = c.requires.bitmap

pub add_rows-requires-2-clause-order : goal.add_rows-requires-2-clause-order
add_rows-requires-2-clause-order c = c.fours.invariant.b_to

pub add_rows-requires-2-clause-within : goal.add_rows-requires-2-clause-within
add_rows-requires-2-clause-within c = le_trans (begin c.args.from c.args.to c.requires.order).third c.requires.within

pub add_rows-requires-2-clause-bitmap : goal.add_rows-requires-2-clause-bitmap
add_rows-requires-2-clause-bitmap c = c.requires.bitmap

pub add_rows-requires-3-clause-order : goal.add_rows-requires-3-clause-order
add_rows-requires-3-clause-order c = c.fours.invariant.c_to

pub add_rows-requires-3-clause-within : goal.add_rows-requires-3-clause-within
add_rows-requires-3-clause-within c = le_trans (begin c.args.from c.args.to c.requires.order).fourth c.requires.within

pub add_rows-requires-3-clause-bitmap : goal.add_rows-requires-3-clause-bitmap
add_rows-requires-3-clause-bitmap c = c.requires.bitmap

pub add_rows-requires-4-clause-order : goal.add_rows-requires-4-clause-order
add_rows-requires-4-clause-order c = c.fours.invariant.d_to

pub add_rows-requires-4-clause-within : goal.add_rows-requires-4-clause-within
add_rows-requires-4-clause-within c = le_trans (le_refl c.args.to) c.requires.within

pub add_rows-requires-4-clause-bitmap : goal.add_rows-requires-4-clause-bitmap
add_rows-requires-4-clause-bitmap c = c.requires.bitmap

pub add_four_rows-requires-clause-a : goal.add_four_rows-requires-clause-a
add_four_rows-requires-clause-a c = c.row.ensures.size ∙ sym (c.fours.auto.sum ∙ c.requires.room)

pub add_four_rows-requires-clause-b : goal.add_four_rows-requires-clause-b
add_four_rows-requires-clause-b c = c.row-in-fours.ensures.size ∙ sym (c.fours.auto.sum ∙ c.requires.room)

pub add_four_rows-requires-clause-c : goal.add_four_rows-requires-clause-c
add_four_rows-requires-clause-c c = c.row-in-fours-2.ensures.size ∙ sym (c.fours.auto.sum ∙ c.requires.room)

pub add_four_rows-requires-clause-d : goal.add_four_rows-requires-clause-d
add_four_rows-requires-clause-d c = c.row-in-fours-3.ensures.size ∙ sym (c.fours.auto.sum ∙ c.requires.room)

pub add_rows-requires-clause-room : goal.add_rows-requires-clause-room
add_rows-requires-clause-room c = c.fours.auto.sum ∙ c.requires.room

pub add_rows-requires-2-clause-room : goal.add_rows-requires-2-clause-room
add_rows-requires-2-clause-room c = c.add_rows.auto.sum ∙ c.fours.auto.sum ∙ c.requires.room

pub add_rows-requires-3-clause-room : goal.add_rows-requires-3-clause-room
add_rows-requires-3-clause-room c = c.add_rows-2.auto.sum ∙ c.add_rows.auto.sum ∙ c.fours.auto.sum ∙ c.requires.room

pub add_rows-requires-4-clause-room : goal.add_rows-requires-4-clause-room
add_rows-requires-4-clause-room c = c.add_rows-3.auto.sum ∙ c.add_rows-2.auto.sum ∙ c.add_rows.auto.sum ∙ c.fours.auto.sum ∙ c.requires.room

pub fours-smaller : goal.fours-smaller
fours-smaller c = nearer _ _ _ c.fours-test.true c.next_set-a-in-fours.ensures.from

pub fours-init : goal.fours-init
fours-init c =
    let from = c.args.from in
    let quarter = (c.args.to - from) / 4 in
    let a = c.next_set-a in
    let b = c.next_set-b in
    let third = c.next_set-c in
    let d = c.next_set-d in
    record {
      a_from = a.ensures.from;
      a_to = a.ensures.to;
      b_from = b.ensures.from;
      b_to = b.ensures.to;
      c_from = third.ensures.from;
      c_to = third.ensures.to;
      d_from = d.ensures.from;
      d_to = d.ensures.to;
      a_set = a.ensures.set;
      b_set = b.ensures.set;
      c_set = third.ensures.set;
      d_set = d.ensures.set;
      summed = λ k.
          let sum = slice_index c.args.sum.now k in
          sym (ap (◌⊕◌ sum) (quarters-none c.args.bitmap.now c.args.matrix.now.rows k from quarter a.result b.result third.result d.result
          a.ensures.others b.ensures.others third.ensures.others d.ensures.others) ∙ add_zero sum);
    }

pub fours-preserved : goal.fours-preserved
unfolding four_at
fours-preserved c =
    let bitmap = c.args.bitmap.now in
    let rows = c.args.matrix.now.rows in
    let from = c.args.from in
    let quarter = (c.args.to - from) / 4 in
    let before = c.fours.invariant in
    let a = c.next_set-a-in-fours in
    let b = c.next_set-b-in-fours in
    let third = c.next_set-c-in-fours in
    let d = c.next_set-d-in-fours in
    let ra = c.row in
    let rb = c.row-in-fours in
    let rc = c.row-in-fours-2 in
    let rd = c.row-in-fours-3 in
    record {
      a_from = omega (arith, a.ensures.from, before.a_from);
      a_to = a.ensures.to;
      b_from = omega (arith, b.ensures.from, before.b_from);
      b_to = b.ensures.to;
      c_from = omega (arith, third.ensures.from, before.c_from);
      c_to = third.ensures.to;
      d_from = omega (arith, d.ensures.from, before.d_from);
      d_to = d.ensures.to;
      a_set = a.ensures.set;
      b_set = b.ensures.set;
      c_set = third.ensures.set;
      d_set = d.ensures.set;
      summed = λ k.
          c.add_four_rows.ensures k
          ∙ ap (λ s. s ⊕ four_at ra.result.now rb.result.now rc.result.now rd.result.now k) (before.summed k)
          ∙ add_assoc (slice_index c.args.sum.now k) (quarters bitmap rows k from quarter c.fours.a c.fours.b c.fours.c c.fours.d) _
          ∙ ap (◌⊕◌ (slice_index c.args.sum.now k))
          (sym (quarters-next bitmap rows _ _ k from quarter c.fours.a c.fours.b c.fours.c c.fours.d a.result b.result third.result d.result
          ra.result.now rb.result.now rc.result.now rd.result.now c.rows-rows.ensures.matrix (omega arith) (omega arith) (omega arith) (omega arith)
          (record { begun = before.a_from; on = a.ensures.from; set = before.a_set c.fours-test.true; is = ra.ensures.is; others = a.ensures.others })
          (record { begun = before.b_from; on = b.ensures.from; set = before.b_set c.if-b-third.true; is = rb.ensures.is; others = b.ensures.others })
          (record { begun = before.c_from; on = third.ensures.from; set = before.c_set c.if-c-fourth.true; is = rc.ensures.is; others = third.ensures.others })
          (record { begun = before.d_from; on = d.ensures.from; set = before.d_set c.if-d-to.true; is = rd.ensures.is; others = d.ensures.others })));
    }

pub returns : goal.returns
returns c = λ k.
    let bitmap = c.args.bitmap.now in
    let rows = c.args.matrix.now.rows in
    let from = c.args.from in
    let quarter = (c.args.to - from) / 4 in
    let before = c.fours.invariant in
    let R = run_sum (given bitmap rows k) in
    let old = slice_index c.args.sum.now k in
    let Q = quarters bitmap rows k from quarter c.fours.a c.fours.b c.fours.c c.fours.d in
    c.add_rows-4.ensures k
    ∙ ap (λ s. s ⊕ R c.fours.d c.args.to)
    (c.add_rows-3.ensures k
    ∙ ap (λ s. s ⊕ R c.fours.c (from + 3 * quarter))
    (c.add_rows-2.ensures k
    ∙ ap (λ s. s ⊕ R c.fours.b (from + 2 * quarter))
    (c.add_rows.ensures k ∙ ap (λ s. s ⊕ R c.fours.a (from + quarter)) (before.summed k))))
    ∙ regroup old Q (R c.fours.a (from + quarter)) (R c.fours.b (from + 2 * quarter)) (R c.fours.c (from + 3 * quarter)) (R c.fours.d c.args.to)
    ∙ ap (◌⊕◌ old)
    (quarters-all bitmap rows k from c.args.to quarter c.fours.a c.fours.b c.fours.c c.fours.d c.requires.order (omega arith)
    before.a_from before.a_to before.b_from before.b_to before.c_from before.c_to before.d_from before.d_to)
  where
    regroup : (x q a b c d : ℕ) → x ⊕ q ⊕ a ⊕ b ⊕ c ⊕ d ≡ x ⊕ (q ⊕ a ⊕ b ⊕ c ⊕ d)
    regroup x q a b c d = simp add_assoc
