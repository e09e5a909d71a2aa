use Rattle.std.proofs.Common.{rules}
use Rattle.list_tool.proofs.find.answer_keys.Goals as goal

-- where the lines can't be written, this had been found, and this row named
pub returns : goal.returns
returns g c = (record { come = c.in_ok-finds.finds; row = c.broken_row-row.result }, c.in-Err-write_answers.field-0, search rules)
