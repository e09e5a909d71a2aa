use Rattle.std.proofs.Common.{◌≡◌, ◌+◌, ◌-◌, ◌++◌, ◌∷◌, [], List, ℕ, length, map, string_bytes, ◌∙◌, ap, arith}
use Rattle.std.proofs.lemmas.List.{length-map}
use Rattle.std.proofs.lemmas.List.Elements.{recursion_from_All}
use Rattle.pir_ports.specs.WordList.{WordList, total}
use Rattle.pir_ports.specs.Names.{name_at, start_at, HasWord}
use Rattle.pir_ports.specs.NameLog.{NameLog}
use Rattle.pir_ports.specs.declared.words.Span.{Span}
use Rattle.pir_ports.proofs.NamesAmong.{names-append}
use Rattle.pir_ports.proofs.WordSpans.{spans-push}
use Rattle.pir_ports.proofs.names.Names.push_start.Goals as goal

pub returns : goal.returns
returns c =
    let words = c.self.inside.words.words in
    let more = map string_bytes c.args.words.now in
    let openings = c.self.inside.openings.items in
    let span : Span = record { from = c.len-from.result; to = c.len-to.result } in
    let kept : c.push_all.new.self.words ≡ words ++ more = ap (λ (w : WordList). w.words) c.push_all.ensures in
    let names : map (name_at c.push_all.new.self.words) openings ≡ c.args.self.now.names =
    ap (λ (l : List (List ℕ)). map (name_at l) openings) kept ∙ names-append words more openings (recursion_from_All (HasWord words) openings c.self.invariant.names)
    ∙ ap (λ (v : NameLog). v.names) c.self.view_is in
    let starts : map (start_at c.push_all.new.self.words) c.push.new.self.items ≡ c.args.self.now.starts ++ more ∷ [] =
    (λ i. map (start_at (kept i)) (c.in-Ok.ensures.items i)) ∙ spans-push words more c.self.inside.starts.items span c.self.invariant.spans c.len-from.ensures (c.len-to.ensures ∙ ap length kept)
    ∙ ap (λ (v : NameLog). v.starts ++ more ∷ []) c.self.view_is in
    let size : length more ≡ length c.args.words.now = length-map c.args.words.now string_bytes in
    let counted : c.self.inside.name_room - (length c.args.words.now + 1) ≡ c.self.inside.name_room - length more - 1 = omega (arith, size) in
    let name_room : c.self.inside.name_room - (length c.args.words.now + 1) ≡ c.args.self.now.name_room - length more - 1 =
    counted ∙ ap (λ (v : NameLog). v.name_room - length more - 1) c.self.view_is in
    let byte_room : c.push_all.new.self.byte_room ≡ c.args.self.now.byte_room - total more =
    ap (λ (w : WordList). w.byte_room) c.push_all.ensures ∙ ap (λ (v : NameLog). v.byte_room - total more) c.self.view_is in
    λ i. record {
      names = names i;
      starts = starts i;
      name_room = name_room i;
      byte_room = byte_room i;
    }
