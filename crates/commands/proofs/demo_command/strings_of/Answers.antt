use Rattle.std.proofs.Common.{◌≡◌, ◌∙◌, ℕ, ◌+◌, ◌<◌, List, [], ◌∷◌, ◌++◌, length, map, take, take_all, get_or, string_bytes, ap, sym}
use Rattle.std.proofs.lemmas.List.{map-append, take_more}
use Rattle.std.proofs.lemmas.Result.{IfOk-from_err}
use Rattle.commands.proofs.demo_command.strings_of.Goals as goal

-- one more was made of the next
one_more : {X T : Type 0} (f : X → List ℕ) (h : T → List ℕ) (xs ys : List X) (x : X) (ts : List T) (i : ℕ) (d : T)
    → ys ≡ xs ++ x ∷ [] → map f xs ≡ map h (take i ts) → f x ≡ h (get_or ts i d) → i < length ts
    → map f ys ≡ map h (take (i + 1) ts)
one_more f h xs ys x ts i d is same last lt = ap (map f) is ∙ map-append f xs (x ∷ [])
    ∙ ap (λ l. l ++ f x ∷ []) same ∙ ap (λ y. map h (take i ts) ++ y ∷ []) last
    ∙ sym (ap (map h) (take_more ts i d lt) ∙ map-append h (take i ts) (get_or ts i d ∷ []))

pub returns-in_err-from_str : goal.returns-in_err-from_str
returns-in_err-from_str c = IfOk-from_err c.from_residual.result _ c.from_residual.ensures.0

pub returns-in_err-push : goal.returns-in_err-push
returns-in_err-push c = IfOk-from_err c.from_residual-in_err-push.result _ c.from_residual-in_err-push.ensures.0

pub words-init : goal.words-init
words-init c = ap (map string_bytes) c.new-words.ensures.items

pub words-preserved : goal.words-preserved
words-preserved c = one_more string_bytes (λ t. t.now) _ _ c.in_ok-from_str.field-0 c.args.texts.now c.words.text-index _ c.in_ok-push.ensures.items c.words.invariant c.in_ok-from_str.ensures.ok c.words-test.true

pub returns : goal.returns
returns c = c.words.invariant ∙ ap (map (λ t. t.now)) (take_all c.words.text-index c.args.texts.now c.words-test.false)
