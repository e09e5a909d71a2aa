use Rattle.std.proofs.Common.{◌≡◌, ◌∙◌, ℕ, List, [], ◌∷◌, ◌++◌, length, ap, subst}
use Rattle.std.specs.Prelude.{OnOk, flat_map}
use Rattle.block_decoder.specs.Text.{block_line, line_of}
use Rattle.client_calls.proofs.Adding.{adds_behind}
use Rattle.client_calls.proofs.text.add_listing.Goals as goal

pub returns : goal.returns
returns c =
    let blocks = c.args.listing.now in
    let old = c.args.text.now.items in
    let head = line_of (98 ∷ 108 ∷ 111 ∷ 99 ∷ 107 ∷ 115 ∷ []) in
    let lines = subst (λ (bs : List (List ℕ)). OnOk c.add_blocks.result (c.add_blocks.new.lines.items ≡ c.add_line.new.text.items ++ flat_map block_line bs)) c.blocks-2.ensures.all c.add_blocks.ensures in
    adds_behind c.add_blocks.result old c.add_line.new.text.items c.add_blocks.new.lines.items (head (length blocks ∷ [])) (flat_map block_line blocks)
    (c.in_ok-add_line.ensures ∙ ap (λ (n : ℕ). old ++ head (n ∷ [])) c.len.ensures.count) lines
