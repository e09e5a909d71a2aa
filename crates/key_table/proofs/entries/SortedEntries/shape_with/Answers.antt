use Rattle.key_table.proofs.Shaping.{shapes_from, width_is}
use Rattle.key_table.proofs.entries.SortedEntries.shape_with.Goals as goal

pub returns : goal.returns
returns c =
    let list = c.args.self.now in
    let rows = c.args.rows in
    let many = c.requires.fullest in
    shapes_from list rows c.args.entries c.width_with.result c.judge_shape.result many
    (width_is list rows c.args.entries c.width_with.result many c.width_with.ensures) c.judge_shape.ensures
