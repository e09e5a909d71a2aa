-- The lines of a text, one at a time.
use Rattle.std.proofs.Common.{◌≡◌, ◌⊎◌, inl, inr, ℕ, suc, ◌+◌, ◌<◌, Bool, true, false, cond, not, List, [], ◌∷◌, ◌++◌, length, take, drop, refl, sym, ◌∙◌, ap, ap₂, arith}
use Rattle.std.specs.List.{after_first, before_first, onto_first, position_or_len}
use Rattle.std.proofs.lemmas.Bool.{cond-false, cond-true, eq-eqb, ne_eqb}
use Rattle.std.proofs.lemmas.List.{append-nil, drop-append-le, length-append, take-append-le}
use Rattle.std.proofs.Math.Seq.{take-append-add}
use Rattle.std.proofs.lemmas.List.Folds.{prefix_len-append}
use Rattle.list_keys.specs.Lines.{is_newline, lines}

-- a byte more in front
take_front : (n b : ℕ) (text : List ℕ) → b ∷ take n text ≡ take (1 + n) (b ∷ text)
take_front n b text = let e : suc n ≡ 1 + n = omega arith in ap (λ k. take k (b ∷ text)) e

drop_front : (n b : ℕ) (text : List ℕ) → drop (n + 1) text ≡ drop (1 + n + 1) (b ∷ text)
drop_front n b text = let e : suc (n + 1) ≡ 1 + n + 1 = omega arith in ap (λ k. drop k (b ∷ text)) e

-- with one byte more in front, which is a newline or not
first_more : (t : Bool) (b : ℕ) (text : List ℕ)
    → (0 < length text → lines text ≡ before_first is_newline text ∷ lines (after_first is_newline text))
    → cond t ([] ∷ lines text) (onto_first b (lines text))
    ≡ take (cond (not t) (1 + position_or_len is_newline text) 0) (b ∷ text)
    ∷ lines (drop (cond (not t) (1 + position_or_len is_newline text) 0 + 1) (b ∷ text))
unfolding lines
first_more true b text first = refl
first_more false b [] first = refl
first_more false b (c ∷ text) first =
    let n = position_or_len is_newline (c ∷ text) in
    ap (onto_first b) (first (omega arith)) ∙ ap₂ (λ line rest. line ∷ lines rest) (take_front n b (c ∷ text)) (drop_front n b (c ∷ text))

-- the first line of a text ends at the first newline, and the others follow
pub lines_first : (text : List ℕ) → 0 < length text
    → lines text ≡ before_first is_newline text ∷ lines (after_first is_newline text)
unfolding lines
lines_first [] some = absurd (omega (arith, some))
lines_first (b ∷ text) some = first_more (is_newline b) b text (lines_first text)

module _ (p : ℕ → Bool) where
  -- what follows a byte that passes doesn't matter
  pub position_kept : (xs ys : List ℕ) → position_or_len p xs < length xs → position_or_len p (xs ++ ys) ≡ position_or_len p xs
  position_kept xs ys lt = prefix_len-append (λ b. not (p b)) xs ys ∙ cond-false _ _ _ (ne_eqb (position_or_len p xs) (length xs) (λ e. omega (arith, e, lt)))

  -- where no byte passes the first one is behind them
  pub position_behind : (xs ys : List ℕ) → position_or_len p xs ≡ length xs → position_or_len p (xs ++ ys) ≡ length xs + position_or_len p ys
  position_behind xs ys e = prefix_len-append (λ b. not (p b)) xs ys ∙ cond-true _ _ _ (eq-eqb _ _ e)

-- the first line of what is unread, where it ends there or nothing follows
pub lines_next : (rest more : List ℕ) (at : ℕ) → 0 < length rest → at ≡ position_or_len is_newline rest
    → (at < length rest) ⊎ (more ≡ []) → lines (rest ++ more) ≡ take at rest ∷ lines (drop (at + 1) rest ++ more)
lines_next rest more at some is (inl lt) =
    let place : position_or_len is_newline (rest ++ more) ≡ at =
    position_kept is_newline rest more (omega (arith, is, lt)) ∙ sym is in
    lines_first (rest ++ more) (omega (arith, some, length-append rest more))
    ∙ ap (λ n. take n (rest ++ more) ∷ lines (drop (n + 1) (rest ++ more))) place
    ∙ ap₂ (λ line text. line ∷ lines text) (take-append-le at rest more (omega (arith, lt))) (drop-append-le (at + 1) rest more (omega (arith, lt)))
lines_next rest more at some is (inr none) =
    let closed : (text : List ℕ) → text ++ more ≡ text = λ text. ap (λ m. text ++ m) none ∙ append-nil text in
    ap lines (closed rest) ∙ lines_first rest some
    ∙ ap (λ n. take n rest ∷ lines (drop (n + 1) rest)) (sym is)
    ∙ ap (λ text. take at rest ∷ lines text) (sym (closed (drop (at + 1) rest)))

-- the first line of what is unread, where it has no newline
pub lines_long : (rest more : List ℕ) → 0 < length rest → position_or_len is_newline rest ≡ length rest
    → lines (rest ++ more) ≡ (rest ++ before_first is_newline more) ∷ lines (after_first is_newline (rest ++ more))
lines_long rest more some none =
    let place = position_behind is_newline rest more none in
    lines_first (rest ++ more) (omega (arith, some, length-append rest more))
    ∙ ap (λ line. line ∷ lines (after_first is_newline (rest ++ more)))
    (ap (λ n. take n (rest ++ more)) place ∙ take-append-add rest more (position_or_len is_newline more))
