use Rattle.std.proofs.Common.{◌∙◌, List, ℕ, ◌++◌, take, get_or, sym, ap, append_assoc}
use Rattle.std.specs.Prelude.{flat_map}
use Rattle.block_decoder.specs.Text.{number_word}
use Rattle.block_decoder.proofs.TextLines.{flat_map-take_more}
use Rattle.client_calls.proofs.text.add_numbers.Goals as goal

pub loop-n-preserved : goal.loop-n-preserved
loop-n-preserved c =
    let numbers = c.args.numbers.now in
    let i = c.loop-n.n-index in
    let word = number_word (get_or numbers i 0) in
    let so_far = flat_map number_word (take i numbers) in
    c.in_ok-add_number.ensures ∙ ap (λ (l : List ℕ). l ++ word) c.loop-n.invariant ∙ append_assoc c.args.text.now.items so_far word
    ∙ ap (λ (l : List ℕ). c.args.text.now.items ++ l) (sym (flat_map-take_more number_word numbers i 0 c.loop-n-test.true))
