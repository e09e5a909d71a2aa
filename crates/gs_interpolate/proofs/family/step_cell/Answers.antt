use Rattle.gs_interpolate.proofs.RowSteps.{cell_step}
use Rattle.gs_interpolate.proofs.family.step_cell.Goals as goal

pub returns-clause-step : goal.returns-clause-step
returns-clause-step c =
    cell_step c.args.factors.now c.add_carry.new.cell c.add_multiple.new.cell c.args.cell.now c.args.p c.args.carry
    c.add_multiple.ensures c.add_carry.ensures.pivot c.add_carry.ensures.others
