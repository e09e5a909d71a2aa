use Rattle.std.proofs.Common.{◌∙◌, sym}
use Rattle.list_tool.proofs.Codes.{absent_code, broken_code, settled_code}
use Rattle.list_tool.proofs.status.finds_code.Goals as goal

pub returns-in-BrokenRow : goal.returns-in-BrokenRow
returns-in-BrokenRow c = broken_code c.args.finds.now c.in-BrokenRow.field-0 c.in-BrokenRow.ensures.0 c.in-BrokenRow.ensures.1

pub returns-then-has_absent : goal.returns-then-has_absent
returns-then-has_absent c = absent_code c.args.finds.now c.in-Settled.ensures.0 c.in-Settled.ensures.1 (sym c.if-has_absent.true ∙ c.has_absent.ensures)

pub returns-else-has_absent : goal.returns-else-has_absent
returns-else-has_absent c = settled_code c.args.finds.now c.in-Settled.ensures.0 c.in-Settled.ensures.1 (sym c.if-has_absent.false ∙ c.has_absent.ensures)
