use Rattle.std.proofs.Common.{◌≡◌, ◌∙◌, ◌-◌, ◌++◌, ◌∷◌, [], ℕ, List, map, ap, ap₂}
use Rattle.std.proofs.lemmas.List.{map-append}
use Rattle.list_finds.specs.Answers.{map_answer, value_of}
use Rattle.list_finds.specs.Held.{Held, value_at}
use Rattle.list_finds.specs.declared.answers.Answer.{Answer}
use Rattle.list_finds.proofs.Kept.{answers_stay}
use Rattle.list_finds.proofs.answers.Answers.push.Goals as goal

pub returns : goal.returns
returns c =
    let bytes = c.self.inside.values.items in
    let kept = c.self.inside.kept.items in
    let said = map_answer (λ v. v.now) c.args.answer in
    let all = c.keep-kept.new.values.items in
    let stay : map (map_answer (value_at all)) kept ≡ map (map_answer (value_at bytes)) kept =
    ap (λ (l : List ℕ). map (map_answer (value_at l)) kept) c.keep-kept.ensures.values ∙ answers_stay bytes (value_of said) kept c.self.invariant.2 in
    let answers : map (map_answer (value_at all)) c.push.new.self.items ≡ map (map_answer (value_at bytes)) kept ++ said ∷ [] =
    ap (map (map_answer (value_at all))) c.in-Ok.ensures.items ∙ map-append (map_answer (value_at all)) kept (c.keep-kept.result ∷ [])
    ∙ ap₂ (λ (xs : List (Answer (List ℕ))) (x : Answer (List ℕ)). xs ++ x ∷ []) stay c.keep-kept.ensures.same in
    (λ i. record { answers = answers i; room = c.self.inside.room - 1; most = c.self.inside.most })
    ∙ ap (λ (h : Held). record h { answers = h.answers ++ said ∷ []; room = h.room - 1 }) c.self.view_is
