use Rattle.std.proofs.Common.{◌≡◌, ◌<◌, List, ℕ, [], get_or, length, map, string_bytes, arith, ◌∙◌, ap, sym}
use Rattle.std.proofs.lemmas.List.{length-map, take-map, get_or-map}
use Rattle.pir_ports.specs.WordList.{with_words}
use Rattle.pir_ports.proofs.WordsFit.{fits_next}
use Rattle.pir_ports.proofs.words.Words.push_all.Goals as goal

pub push-requires : goal.push-requires
push-requires c =
    let words = map string_bytes c.args.words.now in
    let i = c.loop-word.word-index in
    let lt : i < length words = omega (arith, c.loop-word-test.true, length-map c.args.words.now string_bytes) in
    let item : c.as_str.result.now ≡ get_or words i [] =
    c.as_str.ensures.value ∙ ap string_bytes c.word-item.is ∙ sym (get_or-map string_bytes c.args.words.now i c.word-item.result [] c.loop-word-test.true) in
    fits_next words i c.as_str.result.now c.args.self.now c.loop-word.self lt item c.requires
    (c.loop-word.invariant ∙ ap (λ (l : List (List ℕ)). with_words l c.args.self.now) (sym (take-map string_bytes i c.args.words.now)))
