use Rattle.std.proofs.Common.{◌∙◌, [], ◌∷◌}
use Rattle.block_decoder.specs.Text.{block_line}
use Rattle.client_calls.proofs.Adding.{adds, adds_behind}
use Rattle.client_calls.proofs.text.add_block.Goals as goal

pub returns : goal.returns
unfolding block_line
returns c =
    let digits = c.as_bytes.ensures.value ∙ c.in_ok-digits.ensures in
    rw (← digits)
    (adds_behind c.extend_from_slice-2.result c.args.lines.now.items c.extend_from_slice.new.self.items c.extend_from_slice-2.new.self.items
    c.as_bytes.result.now (10 ∷ []) c.in_ok-extend_from_slice.ensures.items
    (adds c.extend_from_slice-2.result c.extend_from_slice.new.self.items c.extend_from_slice-2.new.self.items (10 ∷ []) c.extend_from_slice-2.ensures.items))
