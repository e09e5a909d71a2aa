use Rattle.std.proofs.Common.{◌≡◌, ◌<◌, ℕ, length, get_or, sym, ap, subst, ◌∙◌}
use Rattle.std.proofs.lemmas.Result.{IfOk-from_err}
use Rattle.std.proofs.lemmas.List.{length-replicate, length-set, get_or-set_same, get_or-set_other}
use Rattle.bi_poly.proofs.Shift.{filled}
use Rattle.gs_interpolate.proofs.RowSteps.{zeros}
use Rattle.gs_interpolate.proofs.basis.power_row.Goals as goal

pub index_mut-requires : goal.index_mut-requires
index_mut-requires c = subst (λ (n : ℕ). c.args.j < n) (sym c.in_ok-resize.ensures.len) c.requires.inside

pub returns-in_err-row : goal.returns-in_err-row
returns-in_err-row c = IfOk-from_err c.from_residual.result _ c.from_residual.ensures.0

pub returns-in_err-resize : goal.returns-in_err-resize
returns-in_err-resize c = IfOk-from_err c.from_residual-in_err-resize.result _ c.from_residual-in_err-resize.ensures.0

pub returns : goal.returns
returns c =
    let row = c.resize.new.self.items in
    let held = filled row _ c.args.lanes _ c.in_ok-row.ensures.items c.in_ok-row.ensures.len c.in_ok-resize.ensures.items in
    let size : length row ≡ c.args.lanes = ap length held ∙ length-replicate c.args.lanes 0 in
    record {
      size = length-set row c.args.j 1 ∙ size;
      one = get_or-set_same row c.args.j 1 0 (subst (λ (n : ℕ). c.args.j < n) (sym size) c.requires.inside);
      others = λ k o. get_or-set_other row c.args.j k 1 0 o ∙ ap (λ xs. get_or xs k 0) held ∙ zeros c.args.lanes k;
    }
