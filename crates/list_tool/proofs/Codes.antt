-- The code of a search, by what is known of its keys.
use Rattle.std.proofs.Common.{◌≡◌, ◌≢◌, ◌∙◌, ℕ, zero, suc, ◌+◌, ◌<◌, ◌||◌, Bool, true, false, if◌then◌else◌, List, [], ◌∷◌, length, None, take, get_or, refl, sym, ap, ap₂, arith}
use Rattle.std.specs.List.{list_any}
use Rattle.std.proofs.lemmas.List.{take_all}
use Rattle.std.proofs.lemmas.List.Folds.{list_any_at, list_any_more}
use Rattle.list_finds.specs.Answers.{HasNoBroken, IsFirstBroken, answer_to}
use Rattle.list_finds.specs.Found.{Come}
use Rattle.list_finds.specs.declared.answers.Answer.{Answer}
use Rattle.list_finds.specs.declared.answers.Answer.TheVariants.{Unknown, Broken, Absent, Present}
use Rattle.list_tool.specs.Status.{answers_code, come_code, finds_code, is_absent, is_broken}

-- one more answer that doesn't pass the test
pub none_more : (p : Answer (List ℕ) → Bool) (answers : List (Answer (List ℕ))) (place : ℕ) → place < length answers
    → list_any p (take place answers) ≡ false → p (answer_to answers place) ≡ false → list_any p (take (place + 1) answers) ≡ false
none_more p answers place lt before one =
    list_any_more p answers place Unknown lt ∙ ap₂ (λ (a b : Bool). a || b) before one

-- all answers were tried
pub none_at_all : (p : Answer (List ℕ) → Bool) (answers : List (Answer (List ℕ))) (place : ℕ) → length answers ≡ place
    → list_any p (take place answers) ≡ false → false ≡ list_any p answers
none_at_all p answers place all none = sym none ∙ ap (list_any p) (take_all place answers (omega (arith, all)))

-- one that passes it settles
pub one_settles : (p : Answer (List ℕ) → Bool) (answers : List (Answer (List ℕ))) (place : ℕ) → place < length answers
    → p (answer_to answers place) ≡ true → true ≡ list_any p answers
one_settles p answers place lt is = sym (list_any_at p answers place Unknown lt is)

-- an answer that isn't broken
not_broken : (a : Answer (List ℕ)) → a ≢ Broken → is_broken a ≡ false
not_broken Unknown other = refl
not_broken Broken other = absurd (other refl)
not_broken Absent other = refl
not_broken (Present value) other = refl

none_broken : (answers : List (Answer (List ℕ))) → HasNoBroken answers → list_any is_broken answers ≡ false
none_broken [] has = refl
none_broken (a ∷ answers) has =
    ap₂ (λ (a b : Bool). a || b) (not_broken a (has 0 (omega arith))) (none_broken answers (λ i lt. has (suc i) (omega (arith, lt))))

-- each verdict listed one block, and these of the answers are broken and absent
code_by : (come : Come) (broken absent : Bool) → come.unlisted ≡ None → list_any is_broken come.answers ≡ broken
    → list_any is_absent come.answers ≡ absent → (if broken then 10 else if absent then 14 else 0) ≡ finds_code come
unfolding answers_code
code_by come broken absent none b a =
    sym (ap (λ u. come_code u come.answers) none ∙ ap₂ (λ (x y : Bool). if x then 10 else if y then 14 else 0) b a)

pub broken_code : (come : Come) (i : ℕ) → come.unlisted ≡ None → IsFirstBroken come.answers i → 10 ≡ finds_code come
broken_code come i none is =
    code_by come true (list_any is_absent come.answers) none (list_any_at is_broken come.answers i Unknown is.within (ap is_broken is.broken)) refl

pub absent_code : (come : Come) → come.unlisted ≡ None → HasNoBroken come.answers → true ≡ list_any is_absent come.answers → 14 ≡ finds_code come
absent_code come none has absent = code_by come false true none (none_broken come.answers has) (sym absent)

pub settled_code : (come : Come) → come.unlisted ≡ None → HasNoBroken come.answers → false ≡ list_any is_absent come.answers → 0 ≡ finds_code come
settled_code come none has present = code_by come false false none (none_broken come.answers has) (sym present)
