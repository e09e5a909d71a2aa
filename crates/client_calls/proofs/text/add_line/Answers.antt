use Rattle.std.proofs.Common.{[], ◌∷◌, ◌++◌}
use Rattle.std.specs.Prelude.{flat_map}
use Rattle.block_decoder.specs.Text.{line_of, number_word}
use Rattle.client_calls.proofs.Adding.{adds, adds_behind}
use Rattle.client_calls.proofs.text.add_line.Goals as goal

pub returns : goal.returns
unfolding line_of
returns c =
    let numbers = flat_map number_word c.args.numbers.now in
    let rest = adds_behind c.extend_from_slice-2.result c.extend_from_slice.new.self.items c.add_numbers.new.text.items
    c.extend_from_slice-2.new.self.items numbers (10 ∷ []) c.in_ok-add_numbers.ensures
    (adds c.extend_from_slice-2.result c.add_numbers.new.text.items c.extend_from_slice-2.new.self.items (10 ∷ []) c.extend_from_slice-2.ensures.items) in
    rw (← c.as_bytes.ensures.value)
    (adds_behind c.extend_from_slice-2.result c.args.text.now.items c.extend_from_slice.new.self.items c.extend_from_slice-2.new.self.items
    c.as_bytes.result.now (numbers ++ 10 ∷ []) c.in_ok-extend_from_slice.ensures.items rest)
