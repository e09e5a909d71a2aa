-- A block is agreed on exactly where some polynomials with its constants hold at enough answers.
use Rattle.std.proofs.Common.{◌≡◌, ℕ, zero, suc, ◌+◌, ap, ◌*◌, ◌<◌, ◌↔◌, Bool, true, List, [], ◌∷◌, length, get_or, take, drop, map, All, AllPairs, ◌≢◌, Decides, refl, sym, ◌∙◌, arith}
use Rattle.std.proofs.lemmas.List.{take_all, length-take-le, length-drop, drop-drop, get_or_default}
use Rattle.std.proofs.lemmas.List.Kept.{AllPairs-from_increasing}
use Rattle.std.specs.List.Sorted.{IsStrictlyIncreasing}
use Rattle.std.proofs.lemmas.List.Elements.{All-cons, All-nil}
use Rattle.std.proofs.lemmas.Slice.Eq.{bytes_eq-Decides}
use Rattle.gf256.specs.Polynomial.{val}
use Rattle.wire_frames.specs.Answer.{Answer}
use Rattle.block_decoder.specs.Agreed.{Filled, answers_of, answer_at, Holds, Agreed, holds_first, Heavy}
use Rattle.block_decoder.proofs.Places.{few_places, places_of, ascending-places_of, within-places_of, pass-places_of, length-places_of}

-- at an answer with a byte for each polynomial the test is whether they hold
pub holds_first-Decides : (polynomials : List (List ℕ)) (a : Answer) → length a.payload ≡ length polynomials → Decides (holds_first polynomials a) (Holds polynomials a)
holds_first-Decides polynomials a e =
    let d = bytes_eq-Decides (take (length polynomials) a.payload) (map (λ p. val p a.index) polynomials) in
    let whole : take (length polynomials) a.payload ≡ a.payload = take_all (length polynomials) a.payload (omega arith) in
    (λ t. sym whole ∙ d.0 t, λ h. d.1 (whole ∙ h))

-- the answer at a place has as many bytes as each
pub filled-at : (width : ℕ) (answers : List Answer) (p : ℕ) → Filled width answers → p < length answers → length (answer_at answers p).payload ≡ width
filled-at width answers p f l = f p (record { index = 0; payload = [] }) l

-- what is agreed on is heavy
pub heavy_from_agreed : (answers : List Answer) (width t h : ℕ) (block : List ℕ) → Filled width answers → Agreed answers width t h block → Heavy answers width t h block
heavy_from_agreed answers width t h block filled a =
    let none : Answer = record { index = 0; payload = [] } in
    let pass : All (λ p. holds_first a.polynomials (answer_at answers p) ≡ true) a.places =
    λ i d l. (holds_first-Decides a.polynomials (answer_at answers (get_or a.places i d))
    (filled-at width answers (get_or a.places i d) filled (a.within i d l) ∙ sym a.one_a_column)).1 (a.agree i d l) in
    let few = few_places (holds_first a.polynomials) answers none a.places a.ascending a.within pass in
    record {
      polynomials = a.polynomials;
      one_a_column = a.one_a_column;
      degree = a.degree;
      enough = let e = a.enough in omega (arith, e, few);
      constants = a.constants;
    }

-- what is heavy is agreed on
pub agreed_from_heavy : (answers : List Answer) (width t h : ℕ) (block : List ℕ) → Filled width answers → Heavy answers width t h block → Agreed answers width t h block
agreed_from_heavy answers width t h block filled a =
    let none : Answer = record { index = 0; payload = [] } in
    let test : Answer → Bool = holds_first a.polynomials in
    let within = within-places_of test answers none in
    let pass = pass-places_of test answers none in
    record {
      polynomials = a.polynomials;
      places = places_of test answers none;
      one_a_column = a.one_a_column;
      degree = a.degree;
      ascending = ascending-places_of test answers none;
      within = within;
      enough = let e = a.enough in let n = length-places_of test answers none in omega (arith, e, n);
      agree = λ i d l. (holds_first-Decides a.polynomials (answer_at answers (get_or (places_of test answers none) i d))
          (filled-at width answers (get_or (places_of test answers none) i d) filled (within i d l) ∙ sym a.one_a_column)).0 (pass i d l);
      constants = a.constants;
    }

-- agreed blocks and the constants of heavy polynomials are one
pub agreed_is_heavy : (answers : List Answer) (width t h : ℕ) (block : List ℕ) → Filled width answers → Agreed answers width t h block ↔ Heavy answers width t h block
agreed_is_heavy answers width t h block filled = (heavy_from_agreed answers width t h block filled, agreed_from_heavy answers width t h block filled)

-- ---- the answers of two slices

-- there is an answer for each index
pub length-answers_of : (width : ℕ) (indices bytes : List ℕ) → length (answers_of width indices bytes) ≡ length indices
length-answers_of width [] bytes = refl
length-answers_of width (index ∷ indices) bytes = let ih = length-answers_of width indices (drop width bytes) in omega (arith, ih)

-- where the slice has so many bytes for each index, each payload has so many
pub filled-answers_of : (width : ℕ) (indices bytes : List ℕ) → length bytes ≡ length indices * width → Filled width (answers_of width indices bytes)
filled-answers_of width [] bytes e = All-nil (λ (a : Answer). length a.payload ≡ width)
filled-answers_of width (index ∷ indices) bytes e =
    All-cons (λ (a : Answer). length a.payload ≡ width) (record { index = index; payload = take width bytes }) (answers_of width indices (drop width bytes))
    (length-take-le width bytes (omega arith))
    (filled-answers_of width indices (drop width bytes) (let n = length-drop width bytes in omega (arith, n)))

-- the answer at a place
pub answer_at-answers_of : (width : ℕ) (indices bytes : List ℕ) (place : ℕ) → place < length indices
    → answer_at (answers_of width indices bytes) place ≡ record { index = get_or indices place 0; payload = take width (drop (place * width) bytes) }
answer_at-answers_of width [] bytes place h = absurd (omega arith)
answer_at-answers_of width (index ∷ indices) bytes zero h = let e : 0 * width ≡ 0 = omega arith in rw e refl
answer_at-answers_of width (index ∷ indices) bytes (suc place) h =
    answer_at-answers_of width indices (drop width bytes) place (omega arith)
    ∙ ap (λ (rest : List ℕ). record { index = get_or indices place 0; payload = take width rest })
    (drop-drop (place * width) width bytes ∙ (let e : width + place * width ≡ suc place * width = omega arith in ap (λ n. drop n bytes) e))

-- ascending indices differ
pub different-answers_of : (width : ℕ) (indices bytes : List ℕ) → IsStrictlyIncreasing indices → AllPairs (λ (a b : Answer). a.index ≢ b.index) (answers_of width indices bytes)
different-answers_of width indices bytes ascending = λ i j d below within same.
    let answers = answers_of width indices bytes in
    let none : Answer = record { index = 0; payload = [] } in
    let size = length-answers_of width indices bytes in
    let at : (k : ℕ) → k < length answers → (get_or answers k d).index ≡ get_or indices k 0 = λ k l.
    ap (λ (a : Answer). a.index) (get_or_default answers k d none l ∙ answer_at-answers_of width indices bytes k (omega (arith, l, size))) in
    let rises = AllPairs-from_increasing indices ascending i j 0 below (omega (arith, within, size)) in
    let equal = sym (at i (omega (arith, below, within))) ∙ same ∙ at j within in
    omega (arith, rises, equal)
