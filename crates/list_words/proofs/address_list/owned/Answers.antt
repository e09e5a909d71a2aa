use Rattle.std.proofs.Common.{◌∙◌, ◌∷◌, ◌++◌, [], List, ℕ, ap, ap₂, map, string_bytes, sym}
use Rattle.std.proofs.lemmas.List.{map-append, map_more}
use Rattle.list_words.proofs.address_list.owned.Goals as goal

pub loop-text-preserved : goal.loop-text-preserved
loop-text-preserved c = ap (map string_bytes) c.in_ok-push.ensures.items ∙ (map-append string_bytes c.loop-text.list.items _
    ∙ (ap₂ (λ (front : List (List ℕ)) (last : List ℕ). front ++ last ∷ []) c.loop-text.invariant c.in_ok-from_str.ensures.ok
    ∙ sym (map_more (λ v. v.now) c.args.texts.now c.loop-text.text-index _ c.loop-text-test.true)))
