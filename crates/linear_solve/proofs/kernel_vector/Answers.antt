use Rattle.std.proofs.Common.{◌≡◌, ◌<◌, ◌++◌, length, get_or, set, take, drop, replicate, ap, sym, subst, ◌∙◌, arith, below_more, take_at, length-set}
use Rattle.std.proofs.lemmas.List.{length-replicate}
use Rattle.std.proofs.lemmas.Result.{IfOk-from_err}
use Rattle.linear_solve.specs.Kernel.{component, inner, IsKernelVector}
use Rattle.linear_solve.specs.Echelon.{columns_of, rows_of, IsEchelon, SendToZero, IsFree}
use Rattle.linear_solve.proofs.Pivots.{length-rows_of, length-columns_of, no_pivots, no_rows}
use Rattle.linear_solve.proofs.Places.{inner-row}
use Rattle.linear_solve.proofs.Solution.{unit_other, unit_here, one_not_zero}
use Rattle.linear_solve.proofs.kernel_vector.Goals as goal

pub loop-i-init : goal.loop-i-init
loop-i-init c =
    let e = c.new-pivots.ensures.items in
    record {
      echelon = rw e (no_pivots c.args.table.now.cols);
      few = rw e (let z = no_rows in omega arith);
      sends_to_zero = λ v k j l. absurd (omega arith);
    }

pub loop-i-preserved : goal.loop-i-preserved
loop-i-preserved c =
    let m = c.args.table.now in
    let i = c.loop-i.i in
    let T = c.in_ok-add_row.ensures in
    let new = c.add_row.new.pivots.items in
    let old = c.loop-i.pivots.items in
    let row = c.row.result.now in
    record {
      echelon = subst (IsEchelon (columns_of new) (rows_of new)) c.row.ensures.width T.echelon;
      few = omega (arith, T.grows, c.loop-i.invariant.few);
      sends_to_zero = λ v k.
          let both = subst (λ w. SendToZero (rows_of new) w v → SendToZero (rows_of old) w v × (inner (component row) v w ≡ 0)) c.row.ensures.width (T.sends_to_zero v) k in
          below_more _ _ (c.loop-i.invariant.sends_to_zero v both.0)
          (sym (inner-row m v i) ∙ ap (λ x. inner (component x) v m.cols) (sym c.row.ensures.cells) ∙ both.1);
    }

pub free_column-requires-clause-fewer : goal.free_column-requires-clause-fewer
free_column-requires-clause-fewer c =
    omega (arith, ap length c.deref.ensures.value, length-rows_of c.loop-i.pivots.items, c.loop-i.invariant.few, c.rows-i-end.ensures, c.cols.ensures, c.requires)

pub solve_back-requires-clause-clear : goal.solve_back-requires-clause-clear
solve_back-requires-clause-clear c = λ t l.
    let free = c.in_ok-free.free in
    let F = c.in_ok-free.ensures in
    let z = c.in_ok-v.ensures.items_if_clones_equal (λ y e. e) in
    let cs = ap columns_of (c.deref-2.ensures.value ∙ sym c.deref.ensures.value) in
    unit_other c.in_ok-v.v.items c.deref_mut.result.now c.cols-2.result free z c.deref_mut.ensures.value (omega (arith, F.inside, c.cols.ensures, c.cols-2.ensures)) (get_or (columns_of c.deref-2.result.now) t 0)
    (λ e. F.apart t (omega (arith, l, ap length (sym cs), length-columns_of c.deref-2.result.now)) (ap (λ x. get_or x t 0) (sym cs) ∙ e))

pub returns : goal.returns
returns c =
    let m = c.args.table.now in
    let n = m.cols in
    let free = c.in_ok-free.free in
    let w = c.solve_back.new.v in
    let start = c.deref_mut.result.now in
    let F = subst (λ k. IsFree (columns_of c.deref.result.now) k free) c.cols.ensures c.in_ok-free.ensures in
    let z : c.in_ok-v.v.items ≡ replicate n 0 = c.in_ok-v.ensures.items_if_clones_equal (λ y e. e) ∙ ap (λ k. replicate k 0) c.cols-2.ensures in
    let width : length start ≡ n = ap length (c.deref_mut.ensures.value ∙ ap (λ x. set x free 1) z) ∙ length-set (replicate n 0) free 1 ∙ length-replicate n 0 in
    let long : length w ≡ n = c.solve_back.auto.v ∙ width in
    let whole : take c.in_ok-v.v.len (w ++ drop (length w) (set c.in_ok-v.v.items free 1)) ≡ w =
    take_at w _ c.in_ok-v.v.len (c.solve_back.auto.v ∙ c.deref_mut.ensures.len) in
    let ps = c.deref-2.result.now in
    let cs = ap columns_of (c.deref.ensures.value ∙ sym c.deref-2.ensures.value) in
    let apart = subst (λ x. IsFree x n free) cs F in
    let kept = c.solve_back.ensures.kept free (subst (λ k. IsFree (columns_of ps) k free) (sym width) apart) in
    let one = kept ∙ unit_here c.in_ok-v.v.items start n free z c.deref_mut.ensures.value F.inside in
    let rs = ap rows_of c.deref-2.ensures.value in
    let sent_to_zero = subst (λ r. SendToZero r n w) rs (subst (λ k. SendToZero (rows_of ps) k w) width c.solve_back.ensures.sent_to_zero) in
    subst (λ x. IsKernelVector x m) (sym whole) record {
      size = long;
      bytes = c.solve_back.ensures.bytes;
      nonzero = (free, F.inside, λ e. one_not_zero (sym one ∙ e));
      sent_to_zero = λ i l. c.loop-i.invariant.sends_to_zero w sent_to_zero i (omega (arith, l, c.rows-i-end.ensures));
    }

pub add_row-requires : goal.add_row-requires
add_row-requires c = subst (IsEchelon (columns_of c.loop-i.pivots.items) (rows_of c.loop-i.pivots.items)) (sym c.row.ensures.width) c.loop-i.invariant.echelon

pub free_column-requires-clause-inside : goal.free_column-requires-clause-inside
free_column-requires-clause-inside c = λ t l.
    let n = c.args.table.now.cols in
    let ps = c.loop-i.pivots.items in
    let here : t < length (rows_of ps) = omega (arith, l, ap length c.deref.ensures.value, length-rows_of ps) in
    let inside = c.loop-i.invariant.echelon.inside t here in
    let same = ap (λ xs. get_or (columns_of xs) t 0) c.deref.ensures.value in
    omega (arith, inside, same, c.cols.ensures)

pub solve_back-requires-clause-echelon : goal.solve_back-requires-clause-echelon
solve_back-requires-clause-echelon c =
    let n = c.args.table.now.cols in
    let free = c.in_ok-free.free in
    let start = c.deref_mut.result.now in
    let ps = c.loop-i.pivots.items in
    let z : c.in_ok-v.v.items ≡ replicate n 0 = c.in_ok-v.ensures.items_if_clones_equal (λ y e. e) ∙ ap (λ k. replicate k 0) c.cols-2.ensures in
    let width : length start ≡ n = ap length (c.deref_mut.ensures.value ∙ ap (λ x. set x free 1) z) ∙ length-set (replicate n 0) free 1 ∙ length-replicate n 0 in
    subst (λ xs. IsEchelon (columns_of xs) (rows_of xs) (length start)) (sym c.deref-2.ensures.value) (subst (IsEchelon (columns_of ps) (rows_of ps)) (sym width) c.loop-i.invariant.echelon)

pub returns-in_err-add_row : goal.returns-in_err-add_row
returns-in_err-add_row c = IfOk-from_err c.from_residual.result _ c.from_residual.ensures.0

pub returns-in_err-free : goal.returns-in_err-free
returns-in_err-free c = IfOk-from_err c.from_residual-in_err-free.result _ c.from_residual-in_err-free.ensures.0

pub returns-in_err-v : goal.returns-in_err-v
returns-in_err-v c = IfOk-from_err c.from_residual-in_err-v.result _ c.from_residual-in_err-v.ensures.0
