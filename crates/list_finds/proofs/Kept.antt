-- Answers stay as they are while more values come.
use Rattle.std.proofs.Common.{◌≡◌, ℕ, List, [], ◌∷◌, ◌++◌, map, All, refl, ap, ap₂}
use Rattle.std.proofs.lemmas.List.Elements.{All-head, All-tail}
use Rattle.wire_frames.proofs.Spans.{slice_range-append}
use Rattle.list_finds.specs.Answers.{map_answer}
use Rattle.list_finds.specs.Held.{LiesIn, value_at}
use Rattle.list_finds.specs.declared.answers.Answer.{Answer}
use Rattle.list_finds.specs.declared.answers.Answer.TheVariants.{Unknown, Broken, Absent, Present}
use Rattle.list_finds.specs.declared.answers.Span.{Span}

module _ (bytes more : List ℕ) where
  -- an answer stays as it is
  answer_stays : (a : Answer Span) → LiesIn bytes a → map_answer (value_at (bytes ++ more)) a ≡ map_answer (value_at bytes) a
  answer_stays Unknown lies = refl
  answer_stays Broken lies = refl
  answer_stays Absent lies = refl
  answer_stays (Present span) lies = ap (λ (v : List ℕ). Present v) (slice_range-append bytes more span.start span.end lies.1)

  -- so do all
  pub answers_stay : (kept : List (Answer Span)) → All (LiesIn bytes) kept
      → map (map_answer (value_at (bytes ++ more))) kept ≡ map (map_answer (value_at bytes)) kept
  answers_stay [] lie = refl
  answers_stay (a ∷ kept) lie =
      ap₂ (λ (x : Answer (List ℕ)) (xs : List (Answer (List ℕ))). x ∷ xs) (answer_stays a (All-head (LiesIn bytes) a kept lie))
      (answers_stay kept (All-tail (LiesIn bytes) a kept lie))
