use Rattle.std.proofs.Common.{◌≡◌, ◌≤◌, ◌∙◌, ◌+◌, ◌-◌, length, take, drop, ap, arith}
use Rattle.list_keys.specs.Window.{Window, part}
use Rattle.list_keys.proofs.Parts.{length_part, part_next, part_start}
use Rattle.list_keys.proofs.window.Unread.give.Goals as goal

pub returns : goal.returns
returns c =
    let i = c.self.inside in
    let at = c.args.at in
    let bytes = i.bytes.items in
    let size = c.self.invariant.0 in
    let order = c.self.invariant.1 in
    let within = c.self.invariant.2 in
    let rest : part bytes i.start i.end ≡ c.args.self.now.rest = ap (λ (w : Window). w.rest) c.self.view_is in
    let long = length_part bytes i.start i.end (omega (arith, size, within)) order in
    let fits : at ≤ i.end - i.start = omega (arith, c.requires, ap length rest, long) in
    let line = part_start bytes i.start i.end at fits ∙ ap (take at) rest in
    let next = ap (λ n. part bytes n i.end) c.min-self-inside.ensures ∙ part_next bytes i.start i.end at (omega (arith, size, within)) order ∙ ap (drop (at + 1)) rest in
    λ j. record { line = line j; rest = next j; ended = (c.self.view_is j).ended }
