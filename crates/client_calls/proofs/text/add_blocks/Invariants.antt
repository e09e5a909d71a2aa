use Rattle.std.proofs.Common.{◌≡◌, ◌++◌, take}
use Rattle.std.specs.Prelude.{flat_map}
use Rattle.block_decoder.specs.Text.{block_line}
use Rattle.client_calls.proofs.text.add_blocks.Given as goal

-- the lines of the blocks so far are added
abbrev pub invariant-loop-block : goal.invariant-loop-block
invariant-loop-block l = l.lines.items ≡ l.initial.lines.items ++ flat_map (λ b. block_line b.items) (take l.block-index l.blocks)
