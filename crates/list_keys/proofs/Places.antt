-- Where a byte stands in a text.
use Rattle.std.proofs.Common.{◌≡◌, ℕ, ◌+◌, ◌≤◌, Bool, List, length, take, drop, sym, ◌∙◌, ap, arith}
use Rattle.std.specs.Prelude.{◌==◌, Option, Some, None, unwrap_or}
use Rattle.std.specs.List.{position_or_len}
use Rattle.std.proofs.lemmas.Bool.{false_from_ne_true}
use Rattle.std.proofs.lemmas.List.{length-take, length-take-le, take-append-drop}
use Rattle.std.proofs.lemmas.List.Sums.{position_or_len_is}
use Rattle.memchr.specs.Find.{IsFirstByte, is_byte}
use Rattle.list_keys.proofs.Splits.{position_behind}

-- the place that a search finds
pub place_found : (byte : ℕ) (text : List ℕ) (r : Option ℕ) → IsFirstByte (is_byte byte) text r
    → unwrap_or r (length text) ≡ position_or_len (λ b. b == byte) text
place_found byte text None none =
    sym (position_or_len_is (λ b. b == byte) text (length text) 0 (omega arith)
    (λ k lt. false_from_ne_true _ (none k (omega arith) lt)) (λ lt. absurd (omega (arith, lt))))
place_found byte text (Some at) found =
    sym (position_or_len_is (λ b. b == byte) text at 0 (omega (arith, found.0.high))
    (λ k lt. false_from_ne_true _ (found.0.before k (omega arith) lt)) (λ lt. found.1))

-- where the first bytes have none, it stands behind them
pub place_on : (p : ℕ → Bool) (text : List ℕ) (looked : ℕ) → looked ≤ length text → position_or_len p (take looked text) ≡ looked
    → position_or_len p text ≡ looked + position_or_len p (drop looked text)
place_on p text looked within none =
    let size = length-take-le looked text within in
    ap (position_or_len p) (sym (take-append-drop looked text))
    ∙ position_behind p (take looked text) (drop looked text) (none ∙ sym size)
    ∙ ap (λ n. n + position_or_len p (drop looked text)) size

-- a text that another begins with isn't longer
pub not_longer : (xs ys : List ℕ) → take (length xs) ys ≡ xs → length xs ≤ length ys
not_longer xs ys e = omega (arith, ap length e, length-take (length xs) ys)
