-- What several bitmaps give, bitmap by bitmap.
use Rattle.std.proofs.Common.{◌≡◌, ℕ, ◌+◌, ◌*◌, ◌/◌, ◌%◌, ◌<◌, List, length, slice_index, sym, ap, ap₂, ◌∙◌, arith}
use Rattle.std.proofs.lemmas.Nat.{div-mul-add, mod-mul-add, mul-add-lt, div-add-mod', div_below, mod_below}
use Rattle.std.proofs.lemmas.List.{ext_get_or}
use Rattle.gf256.specs.Sums.{run_sum}
use Rattle.gf256.proofs.RunSums.{run-all}
use Rattle.block_matrix.specs.Database.{Database}
use Rattle.chor_xor.specs.Bitmap.{size_of}
use Rattle.chor_xor.specs.Chosen.{given, chosen_at, chosen}
use Rattle.chor_xor.proofs.ChosenSums.{length-chosen, chosen-column}
use Rattle.row_workers.specs.Pieces.{piece}
use Rattle.row_workers.proofs.RunSums.{run-same}
use Rattle.row_workers.proofs.PieceSums.{piece-at, length-piece}
use Rattle.xor_answers.specs.Asked.{asked}

-- what a row gives, by the bitmap's own piece
pub asked-is : (bitmaps : List ℕ) (rows : List (List ℕ)) (width v c j : ℕ) → c < width
    → asked bitmaps rows width (v * width + c) j ≡ given (piece (size_of (length rows)) bitmaps v) rows c j
unfolding asked
asked-is bitmaps rows width v c j l =
    ap₂ (λ u k. given (piece (size_of (length rows)) bitmaps u) rows k j) (div-mul-add v width c l) (mod-mul-add v width c l)

-- the answers to all bitmaps
pub answers-are : (bitmaps out : List ℕ) (m : Database) (count : ℕ) → length out ≡ count * m.width
    → ((p : ℕ) → p < count * m.width → slice_index out p ≡ run_sum (asked bitmaps m.rows m.width p) 0 (length m.rows))
    → (v : ℕ) → v < count → piece m.width out v ≡ chosen m (piece (size_of (length m.rows)) bitmaps v)
unfolding chosen_at
answers-are bitmaps out m count size is v l =
    let bitmap = piece (size_of (length m.rows)) bitmaps v in
    let long = length-piece out m.width v count l size in
    ext_get_or 0 (piece m.width out v) (chosen m bitmap) (long ∙ sym (length-chosen m bitmap))
    (λ c k.
    let low : c < m.width = omega (arith, k, long) in
    piece-at out m.width v c low ∙ is (v * m.width + c) (let h = mul-add-lt v m.width c count l low in omega (arith, h))
    ∙ run-same (asked bitmaps m.rows m.width (v * m.width + c)) (given bitmap m.rows c) 0 (length m.rows) (λ j a b. asked-is bitmaps m.rows m.width v c j low)
    ∙ run-all (given bitmap m.rows c) (length m.rows) ∙ sym (chosen-column m bitmap c low))

-- the sums of all bitmaps, from those of each
pub all-asked : (bitmaps sums : List ℕ) (rows : List (List ℕ)) (width count from to : ℕ)
    → ((v c : ℕ) → v < count → c < width → slice_index sums (v * width + c) ≡ run_sum (given (piece (size_of (length rows)) bitmaps v) rows c) from to)
    → (p : ℕ) → p < count * width → slice_index sums p ≡ run_sum (asked bitmaps rows width p) from to
all-asked bitmaps sums rows width count from to each p l =
    let some : 0 < width = grind arith in
    let v = p / width in
    let c = p % width in
    let small : c < width = mod_below p width some in
    let place = div-add-mod' p width in
    ap (slice_index sums) (sym place) ∙ each v c (div_below p width count some l) small
    ∙ run-same _ (asked bitmaps rows width p) from to
    (λ j a b. sym (asked-is bitmaps rows width v c j small) ∙ ap (λ q. asked bitmaps rows width q j) place)
