use Rattle.std.proofs.Common.{[], ◌∷◌}
use Rattle.block_decoder.specs.Text.{number_word}
use Rattle.client_calls.proofs.Adding.{adds, adds_behind}
use Rattle.client_calls.proofs.text.add_number.Goals as goal

pub returns : goal.returns
unfolding number_word
returns c =
    rw (← c.format.ensures.text) (rw (← c.as_bytes.ensures.value) (
    adds_behind c.extend_from_slice-2.result c.args.text.now.items c.extend_from_slice.new.self.items c.extend_from_slice-2.new.self.items
    (32 ∷ []) c.as_bytes.result.now c.in_ok-extend_from_slice.ensures.items
    (adds c.extend_from_slice-2.result c.extend_from_slice.new.self.items c.extend_from_slice-2.new.self.items c.as_bytes.result.now
    c.extend_from_slice-2.ensures.items)))
