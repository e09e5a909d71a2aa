-- Words that are kept one after the other.
use Rattle.std.proofs.Common.{◌≡◌, ℕ, get_or, ◌+◌, ◌<◌, ◌≤◌, List, [], ◌∷◌, length, take, ap, sym, subst, ◌∙◌, arith}
use Rattle.std.proofs.lemmas.List.{take_more, length-take-le}
use Rattle.std.proofs.lemmas.List.Sums.{sum_by_push, sum_by-take-le}
use Rattle.pir_ports.specs.WordList.{WordList, total, Fits, with_words}

-- the bytes of one word
pub total_one : (word : List ℕ) → total (word ∷ []) ≡ length word
total_one word = omega arith

-- once the first i words are kept there is room for the next
pub fits_next : (more : List (List ℕ)) (i : ℕ) (word : List ℕ) (list now : WordList) → i < length more → word ≡ get_or more i []
    → Fits more list → now ≡ with_words (take i more) list → Fits (word ∷ []) now
fits_next more i word list now lt is fits now_is =
    let size : length (take i more) ≡ i = length-take-le i more (omega (arith, lt)) in
    let next : total (take (i + 1) more) ≡ total (take i more) + length (get_or more i []) =
    ap total (take_more more i [] lt) ∙ sum_by_push (λ (w : List ℕ). length w) (take i more) (get_or more i []) in
    let most : total (take (i + 1) more) ≤ total more = sum_by-take-le (λ (w : List ℕ). length w) more (i + 1) in
    subst (λ (l : WordList). Fits (word ∷ []) l) (sym now_is) record {
      words = omega (arith, size, fits.words, lt);
      bytes = omega (arith, next, most, fits.bytes, ap (λ (w : List ℕ). length w) is);
    }
