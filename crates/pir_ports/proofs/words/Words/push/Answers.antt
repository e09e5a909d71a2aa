use Rattle.std.proofs.Common.{◌≡◌, ◌-◌, ◌++◌, ◌∷◌, [], List, ℕ, length, map, rules, ◌∙◌, ap, sym}
use Rattle.pir_ports.specs.WordList.{WordList, total}
use Rattle.pir_ports.specs.WordsInside.{word_in}
use Rattle.pir_ports.specs.declared.words.Span.{Span}
use Rattle.pir_ports.proofs.WordSpans.{spans-push}
use Rattle.pir_ports.proofs.WordsFit.{total_one}
use Rattle.pir_ports.proofs.words.Words.push.Goals as goal

pub returns : goal.returns
returns c =
    let text = c.self.inside.text.items in
    let word = c.args.word.now in
    let more : c.extend_from_slice.new.self.items ≡ text ++ word = c.in-Ok.ensures.items ∙ ap (λ (l : List ℕ). text ++ l) c.as_bytes.ensures.value in
    let from : c.len-from.result ≡ length text = search rules in
    let to : c.len-to.result ≡ length (text ++ word) = let size : c.len-to.result ≡ length c.extend_from_slice.new.self.items = search rules in size ∙ ap length more in
    let span : Span = record { from = c.len-from.result; to = c.len-to.result } in
    let words : map (word_in c.extend_from_slice.new.self.items) c.push.new.self.items ≡ c.args.self.now.words ++ word ∷ [] =
    (λ i. map (word_in (more i)) (c.in-Ok-push.ensures.items i)) ∙ spans-push text word c.self.inside.spans.items span c.self.invariant.spans from to
    ∙ ap (λ (v : WordList). v.words ++ word ∷ []) c.self.view_is in
    let byte_room : c.self.inside.byte_room - length word ≡ c.args.self.now.byte_room - total (word ∷ []) =
    ap (λ (v : WordList). v.byte_room - length word) c.self.view_is ∙ ap (λ (k : ℕ). c.args.self.now.byte_room - k) (sym (total_one word)) in
    λ i. record {
      words = words i;
      word_room = (c.self.view_is i).word_room - 1;
      byte_room = byte_room i;
    }
